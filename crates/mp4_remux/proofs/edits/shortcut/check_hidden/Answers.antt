use Rattle.std.proofs.Common.{arith, subst}
use Rattle.mp4_remux.proofs.Splicing.{all_end, all_more}
use Rattle.mp4_remux.specs.Shortcuts.{HidesDropped}
use Rattle.mp4_remux.proofs.edits.shortcut.check_hidden.Goals as goal

pub loop-edit-preserved : goal.loop-edit-preserved
loop-edit-preserved c =
    all_more (HidesDropped c.args.ids.now) c.args.edits.now c.loop-edit.edit-index _ c.loop-edit-test.true
    c.loop-edit.invariant (subst (HidesDropped c.args.ids.now) c.edit-item.is (c.stray.ensures c.in-None.is))

pub returns : goal.returns
returns c =
    all_end (HidesDropped c.args.ids.now) c.args.edits.now c.loop-edit.edit-index (omega arith)
    c.loop-edit.invariant
