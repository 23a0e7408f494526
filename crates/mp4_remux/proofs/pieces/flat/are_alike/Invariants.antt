-- The pieces that are passed are the same bytes.
use Rattle.std.proofs.Common.{◌≡◌, ℕ, List, take}
use Rattle.mp4_remux.specs.Pieces.{spelled}
use Rattle.mp4_remux.proofs.pieces.flat.are_alike.Given as goal

abbrev pub invariant-loop-index : goal.invariant-loop-index
invariant-loop-index l = (B : List ℕ) → spelled B (take l.index l.pieces) ≡ spelled B (take l.index l.others)
