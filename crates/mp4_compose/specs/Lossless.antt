-- A box that is read as a typed box if that loses nothing, and else kept as its bytes.
use Rattle.std.specs.Prelude.{ℕ, ◌-◌, ◌≤◌, ◌^◌, ◌%◌, ◌==◌, ◌&&◌, nat_eq, nat_le, nat_lt, Bool, true, List, [], ◌∷◌}
use Rattle.std.specs.Prelude.{◌++◌, length, take, drop, Result, Ok, Err, if◌then◌else◌}
use lib.Pointwise.{pointwise}
use Rattle.mp4_frame.specs.BoxType.{name_of}
use Rattle.mp4_frame.specs.Bytes.{number, bytes_of_fields}
use Rattle.mp4_frame.specs.Format.{Format}
use Rattle.mp4_frame.specs.Laws.{IsWhole}
use Rattle.mp4_frame.specs.Members.{Held, holds, format_held}
use Rattle.mp4_frame.specs.Reading.{Fault, Invalid, Reading, ◌>>=◌, check, expect_bytes, memory, done}
use Rattle.mp4_frame.specs.declared.box_type.BoxType.{BoxType}
use Rattle.mp4_compose.specs.declared.lossless.Lossless.{Lossless}
use Rattle.mp4_compose.specs.declared.lossless.Lossless.TheVariants as lossless

-- The bytes of the box of this code and size at the front. The header has 8 bytes here, even if it was read in 16.
unfoldable pub short_box : ℕ → List ℕ → ℕ → List ℕ
short_box code bytes size =
    if (number bytes 0 4 == size) && (number bytes 4 4 == code) then take size bytes else
    bytes_of_fields ((4, size % 2 ^ 32) ∷ (4, code) ∷ []) ++ take (size - 8) (drop 8 bytes)

-- the bytes are those of a box of this code whose header has 8 bytes
pub record IsKept (code : ℕ) (box : List ℕ) : Type 0 where
  pub least : 8 ≤ length box
  pub whole : IsWhole code box

module _ {A : Type 0} (known : BoxType → Bool) (named_reading : BoxType → List ℕ → ℕ → ℕ → Reading A)
    (format : Format A) where
  -- true if a value is written in these bytes
  abbrev pub is_written_in : A → List ℕ → Bool
  is_written_in v box = nat_lt (format.size v) (2 ^ 32) && pointwise nat_eq (format.bytes v) box

  abbrev pub lossless_of : ℕ → List ℕ → Result A Fault → Lossless A
  lossless_of code box (Ok v) = if is_written_in v box then lossless.Typed v else lossless.Raw code box
  lossless_of code box (Err k) = lossless.Raw code box

  -- the outcome of reading the bytes of a box under its code, if boxes of this code are read
  abbrev pub outcome_in : ℕ → List ℕ → Result A Fault
  outcome_in code box =
      if known (name_of code) then (named_reading (name_of code) box 0 (length box)).outcome else Err Invalid

  -- the value that is read if it is written in the same bytes, else these bytes
  abbrev pub exact : ℕ → List ℕ → Lossless A
  exact code box = lossless_of code box (outcome_in code box)

  unfoldable pub content_lossless : ℕ → List ℕ → ℕ → Reading (Lossless A)
  content_lossless code bytes size = do
    _ ← check (nat_le 8 size)
    _ ← expect_bytes bytes 0 size
    _ ← memory
    done (exact code (short_box code bytes size))

  abbrev pub reads_exact : ℕ → List ℕ → ℕ → ℕ → Reading (Lossless A)
  reads_exact code bytes start size = content_lossless code bytes size

  abbrev pub held_lossless : Lossless A → Held (Lossless A)
  held_lossless (lossless.Typed v) = holds format lossless.Typed v
  held_lossless (lossless.Raw code box) =
      record {
        name = name_of code;
        size = length box;
        Writable = IsKept code box;
        bytes = box;
        normal = exact code box;
      }

  abbrev pub format_lossless : Format (Lossless A)
  format_lossless = format_held held_lossless

-- boxes of all names are read
abbrev pub known_lossless : BoxType → Bool
known_lossless name = true
