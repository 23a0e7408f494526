use Rattle.std.proofs.Common.{arith, refl}
use Rattle.mp4_remux.proofs.Within.{none_first, one_more, all_within}
use Rattle.mp4_remux.proofs.pieces.piece.are_within.Goals as goal

pub loop-piece-init : goal.loop-piece-init
loop-piece-init c = none_first c.args.length c.args.pieces.now

pub loop-piece-preserved : goal.loop-piece-preserved
loop-piece-preserved c =
    one_more c.args.length c.args.pieces.now c.loop-piece.piece-index c.piece-item.result c.loop-piece-test.true
    c.piece-item.is (c.is_within.ensures.0 c.if-not-is_within.false) c.loop-piece.invariant

pub returns : goal.returns
returns c = (
  (λ _. all_within c.args.length c.args.pieces.now c.loop-piece.piece-index (omega arith) c.loop-piece.invariant),
  λ _. refl,
)
