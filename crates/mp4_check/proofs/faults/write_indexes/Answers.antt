use Rattle.std.proofs.Common.{◌∙◌, List, length, subst, sym}
use Rattle.mp4_check.specs.FaultValues.{Value}
use Rattle.mp4_check.specs.contracts.indexes.OwnReadingIndexReading.TheImpl as own
use Rattle.mp4_check.proofs.FaultLoops.{no_indexes, with_indexes}
use Rattle.mp4_check.proofs.Outcomes.{if_is, if_ok, some_at}
use Rattle.mp4_check.specs.declared.lines.Told.{Told}
use Rattle.mp4_check.proofs.faults.write_indexes.Goals as goal

pub returns-then-not-has_indexes-clause-value : goal.returns-then-not-has_indexes-clause-value
returns-then-not-has_indexes-clause-value g c =
    let start = c.args.output.now in
    if_is c.args.walk.now.bytes (λ file known.
    subst (λ (vs : List Value). g.F.FaultForm.writes c.args.form c.args.told vs start start c.args.told)
    (sym (no_indexes (own.ghosts).reads file c.args.boxes.now (length file)
    (sym c.has_indexes.ensures ∙ c.if-not-has_indexes.true)))
    (g.F.FaultForm.writes_none c.args.form c.args.told start))

pub returns-clause-value : goal.returns-clause-value
returns-clause-value g c =
    let start = c.args.output.now in
    let end = c.write_each_index.new.output in
    if_is c.args.walk.now.bytes (λ file known.
    if_ok c.write_each_index.result (some_at c.args.walk.now.bytes file _ known c.write_each_index.ensures.value)
    (λ (told : Told) written.
    subst (λ (vs : List Value). g.F.FaultForm.writes c.args.form c.args.told vs start end told)
    (with_indexes (own.ghosts).reads file c.args.boxes.now (length file)
    (sym c.has_indexes.ensures ∙ c.if-not-has_indexes.false)) written))
