-- The progress of a walk over the boxes of a file, and the results of its calls.
use Rattle.std.specs.Prelude.{◌≡◌, ℕ, ◌-◌, ◌≤◌, List, [], ◌∷◌, ◌++◌, length, reverse, None, Some, IfSome}
use Rattle.std.specs.declared.option.Option.{Option}
use Rattle.mp4_walk.specs.Source.{Known}
use Rattle.mp4_walk.specs.FileBoxes.{boxes_in}
use Rattle.mp4_walk.specs.declared.level.Level.{Level}
use Rattle.mp4_walk.specs.declared.tree_box.TreeBox.{TreeBox}

-- the bytes of the source, if they are known, their number, the position, and the levels there, innermost first
pub record Walk : Type 0 where
  pub bytes : Option (List ℕ)
  pub length : ℕ
  pub at : ℕ
  pub levels : List Level

-- a walk at a position of a level, with the enclosing levels, outermost first
abbrev pub walk_at : Known → ℕ → Level → List Level → Walk
walk_at source at l around =
    record { bytes = source.bytes; length = source.length; at = at; levels = l ∷ reverse around }

-- the remaining boxes at a position of the first of these levels
abbrev pub unwound : List ℕ → ℕ → List Level → List TreeBox
unwound B at [] = []
unwound B at (l ∷ ls) = boxes_in B l at ++ unwound B l.end ls

-- the remaining boxes of a walk
abbrev pub left : List ℕ → Walk → List TreeBox
left B s = unwound B s.at s.levels

-- the number of remaining bytes. Each box takes some of them
abbrev pub bytes_left : Walk → ℕ
bytes_left s = s.length - s.at

-- the call returned the first remaining box, or none if none remained
abbrev pub Comes : List TreeBox → Option TreeBox → List TreeBox → Type 0
Comes were None are = (were ≡ []) × (are ≡ [])
Comes were (Some found) are = were ≡ found ∷ are

-- each level ends within the next one, and the last ends within n bytes
abbrev pub Nested : ℕ → ℕ → List Level → Type 0
Nested n at [] = at ≤ n
Nested n at (l ∷ ls) = (at ≤ l.end) × Nested n l.end ls

-- the levels are nested, and the length is the number of bytes if these are known
pub record IsWalk (s : Walk) : Type 0 where
  pub nested : Nested s.length s.at s.levels
  pub known : IfSome s.bytes (λ B. s.length ≡ length B)

-- closing the levels that are over at a position keeps the levels nested and the remaining boxes the same
pub record Closes (at : ℕ) (were are : List Level) : Type 0 where
  pub nested : (n : ℕ) → Nested n at were → Nested n at are
  pub same : (B : List ℕ) (n : ℕ) → Nested n at were → unwound B at were ≡ unwound B at are

-- the level that a step enters, if any, and the enclosing ones
abbrev pub with_inner : Option Level → List Level → List Level
with_inner None ls = ls
with_inner (Some inner) ls = inner ∷ ls
