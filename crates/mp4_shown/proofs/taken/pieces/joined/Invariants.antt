use Rattle.std.proofs.Common.{◌≡◌, take}
use Rattle.mp4_shown.specs.TakenPieces.{concat}
use Rattle.mp4_shown.proofs.taken.pieces.joined.Given as goal

abbrev pub invariant-loop-piece : goal.invariant-loop-piece
invariant-loop-piece l = l.bytes.items ≡ concat (take l.piece-index l.pieces)
