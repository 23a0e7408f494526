use Rattle.std.proofs.Common.{◌≡◌, List, take, Ok, Err, ap, rules, subst}
use Rattle.std.specs.Prelude.{IfSome}
use Rattle.std.proofs.lemmas.List.{take_all}
use Rattle.mp4_lemmas.proofs.Outcomes.{always_known, both_known}
use Rattle.mp4_inspect.proofs.TurnSteps.{none_written, one_written, one_begun}
use Rattle.mp4_inspect.specs.FieldLines.{TellsLine}
use Rattle.mp4_inspect.specs.InTurn.{WritesInTurn}
use Rattle.mp4_walk.specs.declared.tree_box.TreeBox.{TreeBox}
use Rattle.mp4_inspect.proofs.field_lines.write_lines.Goals as goal

pub loop-found-init : goal.loop-found-init
loop-found-init g c = record {
  written = always_known c.args.walk.now.bytes
      (λ bytes. none_written
      (TellsLine g.B.Shown.known g.B.Shown.named_reading g.B.BoxFields.shown c.args.field.now bytes)
      (g.W.Write.contents c.args.output.now.inner));
  mark = search rules;
  kept = search rules;
}

pub loop-found-preserved : goal.loop-found-preserved
loop-found-preserved g c = record {
  written =
      rw c.either-any.ensures
      (both_known c.args.walk.now.bytes c.loop-found.walk.bytes (ap (λ t. t.bytes) c.loop-found.invariant.kept)
      c.loop-found.invariant.written c.in_ok-here.ensures.line
      (λ bytes so_far line.
      one_written
      (TellsLine g.B.Shown.known g.B.Shown.named_reading g.B.BoxFields.shown c.args.field.now bytes)
      c.args.chosen.now c.loop-found.found-index _
      (g.W.Write.contents c.args.output.now.inner) (g.W.Write.contents c.loop-found.output.inner)
      (g.W.Write.contents c.write_line_of.new.output.inner) c.loop-found.any c.in_ok-here.here
      (search rules) so_far line));
  mark = search rules;
  kept = search rules;
}

pub returns-in_err-here-clause-lines : goal.returns-in_err-here-clause-lines
returns-in_err-here-clause-lines g c =
    let failed : c.from_residual.result ≡ Err c.in_err-here.field-0.0 = search rules in
    rw failed
    (both_known c.args.walk.now.bytes c.loop-found.walk.bytes (ap (λ t. t.bytes) c.loop-found.invariant.kept)
    c.loop-found.invariant.written c.in_err-here.ensures.line
    (λ bytes so_far line.
    one_begun
    (TellsLine g.B.Shown.known g.B.Shown.named_reading g.B.BoxFields.shown c.args.field.now bytes)
    c.args.chosen.now c.loop-found.found-index _
    (g.W.Write.contents c.args.output.now.inner) (g.W.Write.contents c.loop-found.output.inner)
    (g.W.Write.contents c.write_line_of.new.output.inner) c.loop-found.any c.in_err-here.field-0.0
    (search rules) so_far line))

pub returns-clause-lines : goal.returns-clause-lines
returns-clause-lines g c =
    let all : take c.loop-found.found-index c.args.chosen.now ≡ c.args.chosen.now =
    take_all c.loop-found.found-index c.args.chosen.now c.loop-found-test.false in
    subst (λ (xs : List TreeBox).
    IfSome c.args.walk.now.bytes
    (λ bytes. WritesInTurn
    (TellsLine g.B.Shown.known g.B.Shown.named_reading g.B.BoxFields.shown c.args.field.now bytes) xs
    (g.W.Write.contents c.args.output.now.inner) (g.W.Write.contents c.loop-found.output.inner)
    (Ok c.loop-found.any))) all c.loop-found.invariant.written
