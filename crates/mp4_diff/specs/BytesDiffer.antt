-- The first byte in which the contents of two boxes differ.
use Rattle.std.specs.Prelude.{ℕ, suc, ◌+◌, ◌-◌, ◌^◌, min, ◌==◌, ◌&&◌, Bool, List, [], ◌∷◌, length, None, Some}
use Rattle.std.specs.Prelude.{if◌then◌else◌}
use Rattle.std.specs.declared.option.Option.{Option}
use Rattle.mp4_content.specs.Pieces.{bytes_of_box}
use Rattle.mp4_walk.specs.declared.tree_box.TreeBox.{TreeBox}

-- the number of equal bytes at the beginnings of two lists
abbrev pub equal_bytes : List ℕ → List ℕ → ℕ
equal_bytes [] ys = 0
equal_bytes (x ∷ xs) [] = 0
equal_bytes (x ∷ xs) (y ∷ ys) = if x == y then suc (equal_bytes xs ys) else 0

-- two contents are equal up to n bytes; they are equal as a whole if both end there
abbrev pub differs_after : ℕ → ℕ → ℕ → Bool → Option ℕ
differs_after n here there same = if ((n == here) && (n == there)) && same then None else Some n

-- the length of a box, or of its content
abbrev pub size_of : Bool → TreeBox → ℕ
size_of content x = if content then x.length - x.header_length else x.length

-- the place of the bytes of a box, or of its content
abbrev pub place_of : Bool → TreeBox → TreeBox
place_of content x = record x {
  position = if content then min (x.position + x.header_length) (2 ^ 64 - 1) else x.position;
  length = size_of content x;
}

-- the position of the first byte in which two boxes differ, or their contents. The bytes are those that the files have,
-- and the lengths by the headers have to be the same, too
abbrev pub differs_at : Bool → List ℕ → TreeBox → List ℕ → TreeBox → Option ℕ
differs_at content file x other y =
    differs_after (equal_bytes (bytes_of_box content file x) (bytes_of_box content other y))
    (length (bytes_of_box content file x)) (length (bytes_of_box content other y))
    (size_of content x == size_of content y)
