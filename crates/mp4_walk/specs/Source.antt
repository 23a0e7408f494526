-- Bytes of a source.
use Rattle.std.specs.Prelude.{◌≡◌, ℕ, ◌+◌, ◌-◌, ◌≤◌, List, length, take, drop, IfSome}
use Rattle.std.specs.Io.{StartsWith}
use Rattle.std.specs.declared.option.Option.{Option}
use Rattle.mp4_walk.specs.declared.tree_box.TreeBox.{TreeBox}

-- the bytes of a source at position o start with these
abbrev pub IsWindow : List ℕ → ℕ → List ℕ → Type 0
IsWindow B o bytes = StartsWith (drop o B) bytes

-- the n bytes starting at position o, or all up to the end if there are fewer
abbrev pub piece : List ℕ → ℕ → ℕ → List ℕ
piece B o n = take n (drop o B)

-- the bytes of a source, if they are known, and their number
pub record Known : Type 0 where
  pub bytes : Option (List ℕ)
  pub length : ℕ

-- the page is bytes starting at position o of a source with n bytes
abbrev pub IsPage : Option (List ℕ) → ℕ → ℕ → List ℕ → Type 0
IsPage all n o page = (o + length page ≤ n) × IfSome all (λ B. (n ≡ length B) × IsWindow B o page)

-- the content of a box: the bytes after its header, or all up to the end of the source if there are fewer
abbrev pub content_of : List ℕ → TreeBox → List ℕ
content_of B found = piece B (found.position + found.header_length) (found.length - found.header_length)
