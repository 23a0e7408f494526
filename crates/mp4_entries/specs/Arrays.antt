-- An array of bytes as a field: the big-endian number of its bytes.
use Rattle.std.specs.Prelude.{◌≡◌, ◌<◌, ◌^◌, ℕ, List, length}
use Rattle.mp4_frame.specs.Bytes.{number, be_bytes}
use Rattle.mp4_frame.specs.Laws.{AreBytes}

-- the w bytes at offset o, where `at o w` is the number of these bytes
abbrev pub array_at : (ℕ → ℕ → ℕ) → ℕ → ℕ → List ℕ
array_at at o w = be_bytes w (at o w)

-- the field of an array of w bytes
abbrev pub field_of_array : ℕ → List ℕ → ℕ × ℕ
field_of_array w array = (w, number array 0 w)

-- an array of w bytes, whose number fits its field
pub record IsArray (w : ℕ) (array : List ℕ) : Type 0 where
  pub long : length array ≡ w
  pub bytes : AreBytes array
  pub small : number array 0 w < 256 ^ w
