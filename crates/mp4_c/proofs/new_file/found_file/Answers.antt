use Rattle.mp4_c.proofs.SpelledRows.{none_passed, one_passed}
use Rattle.mp4_c.proofs.new_file.found_file.Goals as goal

pub loop-piece-init : goal.loop-piece-init
loop-piece-init c = none_passed c.args.pieces.now _ c.new.ensures.items c.new-2.ensures.items

pub loop-piece-preserved : goal.loop-piece-preserved
loop-piece-preserved c =
    one_passed c.args.pieces.now c.loop-piece.piece-index c.piece-item.result c.loop-piece.found c.push_piece.new.found
    c.loop-piece-test.true c.piece-item.is c.loop-piece.invariant c.in_ok-push_piece.ensures.rows
    c.in_ok-push_piece.ensures.bytes
