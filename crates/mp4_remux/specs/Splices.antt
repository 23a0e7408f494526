-- Splices of a file: ranges of its bytes that are replaced by other bytes.
use Rattle.std.specs.Prelude.{ℕ, ◌≡◌, ◌+◌, ◌-◌, ◌^◌, ◌≤◌, ◌==◌, ◌&&◌, Bool, not, min, nat_le, nat_lt}
use Rattle.std.specs.Prelude.{List, [], ◌∷◌, ◌++◌, length, drop, filter, sum_by}
use Rattle.mp4_walk.specs.Source.{piece}
use Rattle.mp4_walk.specs.declared.tree_box.TreeBox.{TreeBox}
use Rattle.mp4_remux.specs.declared.edits.splice.Splice.{Splice}

-- the position after a box, which stops at the largest number
abbrev pub box_end : TreeBox → ℕ
box_end x = min (x.position + x.length) (2 ^ 64 - 1)

-- the bytes of the file B starting at position `at`, after these splices
abbrev pub spliced_from : List ℕ → ℕ → List Splice → List ℕ
spliced_from B at [] = drop at B
spliced_from B at (s ∷ ss) = piece B at (s.begin - at) ++ s.bytes.items ++ spliced_from B s.end ss

-- the file B after these splices
abbrev pub spliced : List ℕ → List Splice → List ℕ
spliced B ss = spliced_from B 0 ss

-- The splices are in a file of n bytes, at position `at` or after it, one after the other. If two of them meet, the
-- first may be deeper, but not the second: so no splice is in a box that the splice before it replaces
abbrev pub AreAfter : ℕ → ℕ → ℕ → List Splice → Type 0
AreAfter n at depth [] = at ≤ n
AreAfter n at depth (s ∷ ss) =
    (at ≤ s.begin) × (at ≡ s.begin → s.depth ≤ depth) × (s.begin ≤ s.end) × AreAfter n s.end s.depth ss

abbrev pub AreInOrder : ℕ → List Splice → Type 0
AreInOrder n ss = AreAfter n 0 0 ss

-- the number of bytes that a splice puts in, and that it takes out
abbrev pub added : Splice → ℕ
added s = length s.bytes.items

abbrev pub removed : Splice → ℕ
removed s = s.end - s.begin

-- the splice changes the number of bytes
abbrev pub is_uneven : Splice → Bool
is_uneven s = not (added s == removed s)

-- the splice is of the top level of a file, and in no box
abbrev pub is_top : Splice → Bool
is_top s = s.depth == 0

-- n and the bytes that these splices put in, without those that they take out
abbrev pub resized : List Splice → ℕ → ℕ
resized ss n = n + sum_by added ss - sum_by removed ss

-- the splice ends before byte o
abbrev pub ends_before : ℕ → Splice → Bool
ends_before o s = nat_le s.end o

-- the position at which byte o is after these splices, if none of them replaces it
abbrev pub place : List Splice → ℕ → ℕ
place ss o = resized (filter (ends_before o) ss) o

-- the splice replaces byte o
abbrev pub has_byte : ℕ → Splice → Bool
has_byte o s = nat_le s.begin o && nat_lt o s.end
