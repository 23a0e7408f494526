-- The ends of the pieces of a plan.
use Rattle.std.specs.Prelude.{ℕ, ◌≡◌, ◌+◌, ◌<◌, List, length, take, slice_index_or}
use Rattle.mp4_remux.specs.declared.pieces.piece.Piece.{Piece}
use Rattle.mp4_remux.specs.Pieces.{lengths}

-- for each piece, the number of bytes up to its end
pub record AreEnds (ps : List Piece) (ends : List ℕ) : Type 0 where
  pub counted : length ends ≡ length ps
  pub sums : (i d : ℕ) → i < length ends → slice_index_or ends i d ≡ lengths (take (i + 1) ps)
