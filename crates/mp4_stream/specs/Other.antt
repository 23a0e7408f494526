-- The value of an OtherBox in contracts, and the codes it may have.
use Rattle.std.specs.Prelude.{ℕ, Bool, List}
use Rattle.mp4_frame.specs.BoxType.{name_of}
use Rattle.mp4_stream.specs.AnyBox.{known_any}

-- a code, and the bytes of a content
pub record Other : Type 0 where
  pub code : ℕ
  pub content : List ℕ

-- The code is that of a type of AnyBox.
abbrev pub is_typed : ℕ → Bool
is_typed code = known_any (name_of code)
