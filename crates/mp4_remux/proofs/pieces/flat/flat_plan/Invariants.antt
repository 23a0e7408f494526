-- The pieces that are passed are in the flat plan.
use Rattle.std.proofs.Common.{◌≡◌, ℕ, List, length, take}
use Rattle.mp4_remux.specs.Pieces.{AreWithin, spelled}
use Rattle.mp4_remux.proofs.pieces.flat.flat_plan.Given as goal

abbrev pub invariant-loop-piece : goal.invariant-loop-piece
invariant-loop-piece l =
    (B : List ℕ) → AreWithin (length B) l.first
    → spelled B l.flat ≡ spelled (spelled B l.first) (take l.piece-index l.second)
