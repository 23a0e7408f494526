use Rattle.std.proofs.Common.{arith}
use Rattle.mp4_samples.proofs.EditTimes.{next_edit, nothing_before}
use Rattle.mp4_check.proofs.headers.sum_of.Goals as goal

pub loop-edit-init : goal.loop-edit-init
loop-edit-init c = omega (arith, nothing_before c.args.edits.now)

pub loop-edit-preserved : goal.loop-edit-preserved
loop-edit-preserved c =
    let next = next_edit c.args.edits.now c.loop-edit.edit-index (omega arith) in
    omega (arith, next, c.loop-edit.invariant, c.saturating_add-total.ensures)
