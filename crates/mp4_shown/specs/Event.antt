-- The events that a sink of fields takes, and the values in them.
use Rattle.std.specs.Prelude.{ℕ, ℤ, List, map}
use denote.Bor.{Bor}
use Rattle.mp4_frame.specs.declared.four_cc.FourCC.{FourCC}
use Rattle.mp4_shown.specs.declared.value.Matrix.{Matrix}
use Rattle.mp4_shown.specs.declared.value.Value.{Value}
use Rattle.mp4_shown.specs.declared.value.Value.TheVariants as value

-- A text, and a list, as a clause sees a reference in a constant: it has no address.
abbrev pub Text : Type 0
Text = record { now : List ℕ }

abbrev pub seen_text : Bor (List ℕ) → Text
seen_text s = record { now = s.now }

-- a number or the bit of a flag, and what it means
abbrev pub Meaning : Type 0
Meaning = ℕ × Text

abbrev pub Meanings : Type 0
Meanings = record { now : List Meaning }

abbrev pub seen_meaning : ℕ × Bor (List ℕ) → Meaning
seen_meaning m = (m.0, seen_text m.1)

abbrev pub seen_meanings : Bor (List (ℕ × Bor (List ℕ))) → Meanings
seen_meanings ms = record { now = map seen_meaning ms.now }

-- the value of a field
pub data Shown : Type 0 where
  number : ℕ → Shown
  signed : ℤ → Shown
  -- a number, and what it means
  named : ℕ → List ℕ → Shown
  -- flags, their number of hexadecimal digits, and what each flag means
  flags : ℕ → ℕ → List Meaning → Shown
  -- seconds since the start of 1904
  date : ℕ → Shown
  -- a number with some of its bits after the point
  fixed : ℕ → ℕ → Shown
  signed_fixed : ℤ → ℕ → Shown
  -- a number with 64 bits of IEEE 754, by its decimal
  float : List ℕ → Shown
  -- the start of an edit in its media
  media_time : ℤ → Shown
  -- a number that stands for its last bytes
  hex : ℕ → ℕ → Shown
  code : List ℕ → Shown
  code_list : List (List ℕ) → Shown
  -- bytes that are meant as UTF-8
  text : List ℕ → Shown
  bytes : List ℕ → Shown
  number_list : List ℤ → Shown
  matrix : Matrix → Shown

abbrev pub bytes_of_code : FourCC → List ℕ
bytes_of_code c = c.value

-- the value that the code hands over, without its references
abbrev pub shown_of : Value → Shown
shown_of (value.Number n) = number n
shown_of (value.Signed z) = signed z
shown_of (value.Named n name) = named n name.now
shown_of (value.Flags n digits names) = flags n digits (seen_meanings names).now
shown_of (value.Date n) = date n
shown_of (value.Fixed n bits) = fixed n bits
shown_of (value.SignedFixed z bits) = signed_fixed z bits
shown_of (value.Float x decimal) = float decimal.now
shown_of (value.MediaTime z) = media_time z
shown_of (value.Hex n count) = hex n count
shown_of (value.Code c) = code (bytes_of_code c)
shown_of (value.Codes cs) = code_list (map bytes_of_code cs.now)
shown_of (value.Text s) = text s.now
shown_of (value.Bytes s) = bytes s.now
shown_of (value.Numbers zs) = number_list zs.now
shown_of (value.Matrix m) = matrix m.now

-- a call of a sink
pub data Event : Type 0 where
  field : List ℕ → Shown → Event
  -- a list under a name, with its number of entries
  begin_list : List ℕ → ℕ → Event
  item : Shown → Event
  begin_entry : Event
  end_entry : Event
  end_list : Event
  begin_group : List ℕ → Event
  end_group : Event
