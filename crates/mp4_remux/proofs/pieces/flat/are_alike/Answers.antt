use Rattle.std.proofs.Common.{arith}
use Rattle.mp4_remux.proofs.FlatPlans.{alike_more}
use Rattle.mp4_remux.proofs.pieces.flat.are_alike.Goals as goal

pub loop-index-preserved : goal.loop-index-preserved
loop-index-preserved c B =
    alike_more c.args.pieces.now c.args.others.now c.loop-index.index c.index-pieces-index.result
    c.index-others-index.result (omega arith) (omega arith) c.index-pieces-index.is c.index-others-index.is
    c.loop-index.invariant (c.is_alike.ensures c.if-not-is_alike.false) B
