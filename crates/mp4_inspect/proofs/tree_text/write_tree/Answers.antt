use Rattle.std.proofs.Common.{◌≡◌, List, take, Err, ap, rules, subst}
use Rattle.std.specs.Prelude.{IfSome}
use Rattle.std.proofs.lemmas.List.{take_all}
use Rattle.mp4_lemmas.proofs.Outcomes.{always_known, both_known}
use Rattle.mp4_inspect.proofs.Boxes.{writes_none, writes_more, begins_more}
use Rattle.mp4_inspect.specs.Written.{WritesBoxes}
use Rattle.mp4_walk.specs.declared.tree_box.TreeBox.{TreeBox}
use Rattle.mp4_inspect.proofs.tree_text.write_tree.Goals as goal

pub loop-found-init : goal.loop-found-init
loop-found-init g c = record {
  written = always_known c.args.tree.now.bytes
      (λ bytes. writes_none g.B.Shown.known g.B.Shown.named_reading g.B.BoxFields.shown c.args.look bytes
      (g.W.Write.contents c.args.output.now.inner));
  mark = search rules;
  kept = search rules;
}

pub loop-found-preserved : goal.loop-found-preserved
loop-found-preserved g c = record {
  written =
      rw c.either-faulty.ensures
      (both_known c.args.tree.now.bytes c.loop-found.tree.bytes (ap (λ t. t.bytes) c.loop-found.invariant.kept)
      c.loop-found.invariant.written c.in_ok-here.ensures.text
      (λ bytes so_far box.
      writes_more g.B.Shown.known g.B.Shown.named_reading g.B.BoxFields.shown c.args.look bytes c.args.boxes.now
      c.loop-found.found-index _
      (g.W.Write.contents c.args.output.now.inner) (g.W.Write.contents c.loop-found.output.inner)
      (g.W.Write.contents c.write_box.new.output.inner) c.loop-found.faulty c.in_ok-here.here
      (search rules) so_far box));
  mark = search rules;
  kept = search rules;
}

pub returns-in_err-here-clause-beginning : goal.returns-in_err-here-clause-beginning
returns-in_err-here-clause-beginning g c =
    let failed : c.from_residual.result ≡ Err c.in_err-here.field-0.0 = search rules in
    rw failed
    (both_known c.args.tree.now.bytes c.loop-found.tree.bytes (ap (λ t. t.bytes) c.loop-found.invariant.kept)
    c.loop-found.invariant.written c.in_err-here.ensures.beginning
    (λ bytes so_far begun.
    begins_more g.B.Shown.known g.B.Shown.named_reading g.B.BoxFields.shown c.args.look bytes c.args.boxes.now
    c.loop-found.found-index _
    (g.W.Write.contents c.args.output.now.inner) (g.W.Write.contents c.loop-found.output.inner)
    (g.W.Write.contents c.write_box.new.output.inner) c.loop-found.faulty
    (search rules) so_far begun))

pub returns-clause-texts : goal.returns-clause-texts
returns-clause-texts g c =
    let all : take c.loop-found.found-index c.args.boxes.now ≡ c.args.boxes.now =
    take_all c.loop-found.found-index c.args.boxes.now c.loop-found-test.false in
    subst (λ (xs : List TreeBox).
    IfSome c.args.tree.now.bytes
    (λ bytes. WritesBoxes g.B.Shown.known g.B.Shown.named_reading g.B.BoxFields.shown c.args.look bytes xs
    (g.W.Write.contents c.args.output.now.inner) (g.W.Write.contents c.loop-found.output.inner)
    c.loop-found.faulty)) all c.loop-found.invariant.written
