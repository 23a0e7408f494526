use Rattle.std.proofs.Common.{sym, ◌∙◌, arith}
use Rattle.mp4_shown.proofs.PieceSteps.{after_piece, no_piece, all_pieces}
use Rattle.mp4_shown.proofs.pieces.bytes_after.Goals as goal

pub returns-then-size-rest : goal.returns-then-size-rest
returns-then-size-rest g c =
    sym (no_piece (g.P.Pieces.size_of c.args.pieces.now) c.loop-left.left c.size-size.result c.loop-left.rest.now
    c.size-size.ensures c.loop-left-test.true (omega (arith, c.if-size-rest.true)))
    ∙ c.loop-left.invariant

pub loop-left-preserved : goal.loop-left-preserved
loop-left-preserved g c =
    after_piece (g.P.Pieces.size_of c.args.pieces.now) c.loop-left.left c.size-size.result c.loop-left.rest.now
    c.bytes_from-rest.result.now c.size-size.ensures c.loop-left-test.true (omega (arith, c.if-size-rest.false))
    c.bytes_from-rest.ensures
    ∙ c.loop-left.invariant

pub returns : goal.returns
returns g c =
    sym (all_pieces (g.P.Pieces.size_of c.args.pieces.now) c.loop-left.left c.loop-left.rest.now c.loop-left-test.false)
    ∙ c.loop-left.invariant
