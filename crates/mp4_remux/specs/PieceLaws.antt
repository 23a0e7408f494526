-- Laws of the definitions.
use Rattle.std.specs.Prelude.{ℕ, ◌≡◌, ◌+◌, ◌<◌, ◌≤◌, List, length, take, drop}
use Rattle.mp4_remux.specs.declared.pieces.piece.Piece.{Piece}
use Rattle.mp4_remux.specs.Pieces.{spelled, AreWithin, Carries}

-- bytes that come from the old file are the same bytes
abbrev pub CarriedBytesAreKept : Type 0
CarriedBytesAreKept =
    (B : List ℕ) (ps : List Piece) (o n a : ℕ) → AreWithin (length B) ps → Carries ps o n a
    → take n (drop o (spelled B ps)) ≡ take n (drop a B)

-- and they are in the old file
abbrev pub CarriedBytesAreOld : Type 0
CarriedBytesAreOld =
    (end : ℕ) (ps : List Piece) (o n a : ℕ) → AreWithin end ps → 0 < n → Carries ps o n a → a + n ≤ end
