use Rattle.std.proofs.Common.{arith}
use Rattle.mp4_remux_files.proofs.Boxes.{last_place, placed_next}
use Rattle.mp4_remux_files.proofs.offsets.place_in.Goals as goal

pub loop-index-preserved : goal.loop-index-preserved
loop-index-preserved c =
    placed_next c.args.old.now c.args.new.now c.loop-index.index _ _ c.args.offset c.loop-index.place c.in-Some.next
    (omega (arith, c.loop-index-test.true)) (omega (arith, c.if-old-new.false)) c.in-Some.ensures
    c.loop-index.invariant

pub returns : goal.returns
returns c =
    last_place c.args.old.now c.args.new.now c.loop-index.index c.args.offset c.loop-index.place
    (omega (arith, c.loop-index-test.false)) c.loop-index.invariant
