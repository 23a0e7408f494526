use Rattle.std.proofs.Common.{arith}
use Rattle.mp4_remux.proofs.Splicing.{all_end, all_more}
use Rattle.mp4_remux_files.specs.EditedFile.{IsUntouched}
use Rattle.mp4_remux_files.proofs.editing.check_untouched.Goals as goal

pub loop-index-preserved : goal.loop-index-preserved
loop-index-preserved c =
    all_more (IsUntouched c.args.splices.now) c.args.boxes.now c.loop-index.index _
    (omega (arith, c.loop-index-test.true)) c.loop-index.invariant
    (c.is_untouched.ensures c.if-not-is_untouched.false)

pub returns : goal.returns
returns c =
    all_end (IsUntouched c.args.splices.now) c.args.boxes.now c.loop-index.index
    (omega (arith, c.loop-index-test.false)) c.loop-index.invariant
