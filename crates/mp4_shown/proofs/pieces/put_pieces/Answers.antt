use Rattle.std.proofs.Common.{arith}
use Rattle.mp4_shown.proofs.PieceSteps.{one_entry, no_entry, all_entries}
use Rattle.mp4_shown.proofs.pieces.put_pieces.Goals as goal

pub returns-then-size-rest : goal.returns-then-size-rest
returns-then-size-rest g c =
    no_entry _ _ _ (g.P.Pieces.size_of c.args.pieces.now) (g.P.Pieces.shown c.args.pieces.now c.args.view)
    c.loop-left.left c.size-size.result c.loop-left.rest.now c.size-size.ensures c.loop-left-test.true
    (omega (arith, c.if-size-rest.true)) c.loop-left.invariant

pub loop-left-preserved : goal.loop-left-preserved
loop-left-preserved g c =
    one_entry _ _ _ _ (g.P.Pieces.size_of c.args.pieces.now) (g.P.Pieces.shown c.args.pieces.now c.args.view)
    c.loop-left.left c.size-size.result c.loop-left.rest.now c.bytes_from-rest.result.now c.size-size.ensures
    c.loop-left-test.true (omega (arith, c.if-size-rest.false)) c.bytes_from-rest.ensures c.in_ok-put_piece.ensures
    c.loop-left.invariant

pub returns : goal.returns
returns g c =
    all_entries _ _ _ (g.P.Pieces.size_of c.args.pieces.now) (g.P.Pieces.shown c.args.pieces.now c.args.view)
    c.loop-left.left c.loop-left.rest.now c.loop-left-test.false c.loop-left.invariant
