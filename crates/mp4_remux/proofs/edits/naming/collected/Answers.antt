use Rattle.std.proofs.Common.{ap, sym, ◌∙◌}
use Rattle.mp4_remux.proofs.Splicing.{splice_more, splice_same}
use Rattle.mp4_remux.specs.Edits.{is_kind}
use Rattle.mp4_remux.proofs.edits.naming.collected.Goals as goal
use Rattle.mp4_remux.proofs.edits.naming.collected.Goals.{then-is_kind+in_ok-splice+in_ok-push, else-is_kind}

pub loop-edit-preserved : goal.loop-edit-preserved
loop-edit-preserved g c = elim c.if-is_kind.branch [
  | then-is_kind+in_ok-splice+in_ok-push w ↦ record {
    walk = w.walk-is ∙ w.splice_of.ensures.kept ∙ c.loop-edit.invariant.walk;
    named = splice_more c.args.boxes.now (is_kind c.args.hides) c.args.edits.now c.loop-edit.edit-index _ _
        c.loop-edit-test.true c.edit-item.is c.loop-edit.walk.bytes c.args.walk.now.bytes
        c.loop-edit.splices.items c.if-is_kind.splices.items w.in_ok-splice.splice
        (sym c.is_kind.ensures ∙ w.if-is_kind.true) (ap (λ v. v.bytes) c.loop-edit.invariant.walk)
        (ap (λ v. v.items) w.splices-is ∙ w.in_ok-push.ensures) w.in_ok-splice.ensures.splice
        c.loop-edit.invariant.named;
  }
  | else-is_kind w ↦ record {
    walk = w.walk-is ∙ c.loop-edit.invariant.walk;
    named = splice_same c.args.boxes.now (is_kind c.args.hides) c.args.edits.now c.loop-edit.edit-index _ _
        c.loop-edit-test.true c.edit-item.is c.args.walk.now.bytes c.loop-edit.splices.items
        c.if-is_kind.splices.items (sym c.is_kind.ensures ∙ w.if-is_kind.false)
        (ap (λ v. v.items) w.splices-is) c.loop-edit.invariant.named;
  }
]
