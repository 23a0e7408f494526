-- Bytes that are equal except in some places.
use Rattle.std.specs.Prelude.{ℕ, ◌≡◌, ◌<◌, ◌&&◌, ◌||◌, Bool, false, nat_le, nat_lt, List, [], ◌∷◌, length, slice_index}
use Rattle.mp4_remux.specs.declared.pieces.holes.Hole.{Hole}

-- byte i is in one of the holes
abbrev pub in_holes : List Hole → ℕ → Bool
in_holes [] i = false
in_holes (h ∷ hs) i = (nat_le h.begin i && nat_lt i h.end) || in_holes hs i

-- ys has as many bytes as xs, and each that is in no hole is the same
pub record AreEqualExcept (hs : List Hole) (xs ys : List ℕ) : Type 0 where
  pub long : length ys ≡ length xs
  pub same : (i : ℕ) → i < length xs → in_holes hs i ≡ false → slice_index ys i ≡ slice_index xs i
