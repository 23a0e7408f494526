-- The pieces that are passed are within.
use Rattle.mp4_remux.proofs.Within.{AreFirstWithin}
use Rattle.mp4_remux.proofs.pieces.piece.are_within.Given as goal

abbrev pub invariant-loop-piece : goal.invariant-loop-piece
invariant-loop-piece l = AreFirstWithin l.length l.pieces l.piece-index
