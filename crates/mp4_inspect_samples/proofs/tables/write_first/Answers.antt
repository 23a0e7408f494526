use Rattle.std.proofs.Common.{◌≡◌, Result, Ok, Err, None, Some, refl, subst, sym}
use Rattle.std.specs.Prelude.{IfOk}
use Rattle.std.specs.declared.option.Option.{Option}
use Rattle.mp4_inspect_samples.proofs.tables.write_first.Goals as goal
use Rattle.mp4_inspect_samples.specs.Row.{labels_of}
use Rattle.mp4_inspect_samples.specs.Tracks.{WritesFirst}
use Rattle.mp4_inspect_samples.specs.declared.fault.Fault.TheVariants as faults
use Rattle.mp4_movie.specs.Problems.{Problem}
use Rattle.mp4_movie.specs.declared.sample_boxes.SampleBoxes.{SampleBoxes}

pub returns-in-Ok-Some-clause-writes : goal.returns-in-Ok-Some-clause-writes
returns-in-Ok-Some-clause-writes g c = λ r is.
    let here : r ≡ Ok (Some c.in-Ok-Some.boxes) = rw c.in-Ok-Some.field-0-is at (rw c.in-Ok-Some.is at is) in
    subst (λ (t : Result (Option SampleBoxes) Problem). IfOk c.write_tables.result
    (WritesFirst c.args.limit c.args.writer.now.form (labels_of c.args.rule.now) t c.args.writer.now.follows
    c.write_tables.new.writer.follows (g.W.Write.contents c.args.output.now.inner)
    (g.W.Write.contents c.write_tables.new.output.inner))) (sym here) c.write_tables.ensures.writes

pub returns-in-Ok-None-clause-writes : goal.returns-in-Ok-None-clause-writes
returns-in-Ok-None-clause-writes g c = λ r is.
    let here : r ≡ Ok None = rw c.in-Ok-None.field-0-is at (rw c.in-Ok-None.is at is) in
    subst (λ (t : Result (Option SampleBoxes) Problem). IfOk c.write_no_rows.result
    (WritesFirst c.args.limit c.args.writer.now.form (labels_of c.args.rule.now) t c.args.writer.now.follows
    c.write_no_rows.new.writer.follows (g.W.Write.contents c.args.output.now.inner)
    (g.W.Write.contents c.write_no_rows.new.output.inner))) (sym here) c.write_no_rows.ensures.writes

pub returns-in-Err-clause-writes : goal.returns-in-Err-clause-writes
returns-in-Err-clause-writes g c = λ r is.
    let here = rw c.in-Err.is at is in
    subst (λ (t : Result (Option SampleBoxes) Problem).
    WritesFirst c.args.limit c.args.writer.now.form (labels_of c.args.rule.now) t c.args.writer.now.follows
    c.args.writer.now.follows (g.W.Write.contents c.args.output.now.inner)
    (g.W.Write.contents c.args.output.now.inner) (Err (faults.Box c.in-Err.error))) (sym here.1)
    (c.in-Err.error, refl, here.2, (refl, refl))
