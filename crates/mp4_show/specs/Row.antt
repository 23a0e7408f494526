-- The events of a row of fields: the names of a box's fields, and its values beside them.
use Rattle.std.proofs.Common.{refl}
use Rattle.std.specs.Prelude.{ℕ, ℤ, ◌+◌, ◌*◌, List, [], ◌∷◌, ◌++◌, Bool, if◌then◌else◌, Option, Some, None}
use Rattle.std.specs.Prelude.{flat_map, map}
use Rattle.std.specs.List.{zip}
use Rattle.mp4_frame.specs.declared.four_cc.FourCC.{FourCC}
use Rattle.mp4_flat.specs.declared.matrix.Matrix.{Matrix}
use Rattle.mp4_shown.specs.Event.{Event, Shown, field, bytes_of_code}
use Rattle.mp4_shown.specs.Event.{bytes as shown_bytes, code as shown_code, code_list, fixed, matrix as shown_matrix}
use Rattle.mp4_shown.specs.Event.{media_time as shown_time, number_list, text as shown_text}
use Rattle.mp4_shown.specs.Lists.{entry_of}
use Rattle.mp4_shown.specs.Members.{AreEntries, AreMembers, members_append, whole_entry, whole_group, whole_number}
use Rattle.mp4_shown.specs.Members.{whole_signed}
use Rattle.mp4_shown.specs.Numbers.{NumberName, shown_number, shown_signed}
use Rattle.mp4_shown.specs.Shapes.{shown_group}
use Rattle.mp4_show.specs.Language.{shown_language}
use Rattle.mp4_show.specs.declared.row.Part.{Part as InCode}
use Rattle.mp4_show.specs.declared.row.Part.TheVariants as part

-- the value of a field in a row
pub data Part : Type 0 where
  -- a field that the box lacks: it is left out
  absent : Part
  -- a number, which is shown as its name says
  number : ℕ → Part
  signed : ℤ → Part
  -- another value
  value : Shown → Part

-- numbers that a box may lack
abbrev pub number_if : Option ℕ → Part
number_if (Some n) = number n
number_if None = absent

abbrev pub signed_if : Option ℤ → Part
signed_if (Some z) = signed z
signed_if None = absent

-- a flag is 0 or 1
abbrev pub bit : Bool → Part
bit b = number (if b then 1 else 0)

-- bytes, and bytes that are meant as a text
abbrev pub bytes : List ℕ → Part
bytes xs = value (shown_bytes xs)

abbrev pub text : List ℕ → Part
text xs = value (shown_text xs)

abbrev pub code : FourCC → Part
code c = value (shown_code (bytes_of_code c))

abbrev pub codes : List FourCC → Part
codes cs = value (code_list (map bytes_of_code cs))

-- the time in its media at which an edit begins
abbrev pub media_time : ℤ → Part
media_time z = value (shown_time z)

-- a resolution of 16.16 bits, as its whole part and its fraction
abbrev pub resolution : ℕ × ℕ → Part
resolution r = value (fixed (r.0 * 65536 + r.1) 16)

abbrev pub numbers : List ℤ → Part
numbers zs = value (number_list zs)

abbrev pub language : List ℕ → Part
language letters = value (shown_language letters)

abbrev pub matrix : Matrix → Part
matrix m =
    value (shown_matrix (record {
      a = m.a;
      b = m.b;
      u = m.u;
      c = m.c;
      d = m.d;
      v = m.v;
      x = m.x;
      y = m.y;
      w = m.w;
    }))

-- version and flags
abbrev pub full_row : ℕ → ℕ → List Part
full_row version flags =
    number version
    ∷ number flags
    ∷ []

-- a part as the code has it, without its references
abbrev pub seen_part : InCode → Part
seen_part (part.U8 n) = number n
seen_part (part.U16 n) = number n
seen_part (part.U32 n) = number n
seen_part (part.U64 n) = number n
seen_part (part.I8 z) = signed z
seen_part (part.I16 z) = signed z
seen_part (part.I32 z) = signed z
seen_part (part.SomeU32 n) = number_if n
seen_part (part.SomeU64 n) = number_if n
seen_part (part.SomeI32 z) = signed_if z
seen_part (part.Bit b) = bit b
seen_part (part.Bytes xs) = bytes xs.now
seen_part (part.Text xs) = text xs.now
seen_part (part.Code c) = code c
seen_part (part.Codes cs) = codes cs.now
seen_part (part.MediaTime z) = media_time z
seen_part (part.Resolution r) = resolution r
seen_part (part.Numbers zs) = numbers zs.now
seen_part (part.Language letters) = language letters.now
seen_part (part.Matrix m) = matrix m.now

abbrev pub shown_part : NumberName → Part → List Event
shown_part f absent = []
shown_part f (number n) = shown_number f n
shown_part f (signed z) = shown_signed f z
shown_part f (value v) = field f.0.now v ∷ []

abbrev pub shown_pair : NumberName × Part → List Event
shown_pair p = shown_part p.0 p.1

-- the fields of a row, each by the name of its place
abbrev pub shown_row : List NumberName → List Part → List Event
shown_row fs ps = flat_map shown_pair (zip fs ps)

whole_part : (f : NumberName) (p : Part) → AreMembers (shown_part f p)
whole_part f absent = λ s. refl
whole_part f (number n) = whole_number f n
whole_part f (signed z) = whole_signed f z
whole_part f (value v) = λ s. refl

whole_pairs : (ps : List (NumberName × Part)) → AreMembers (flat_map shown_pair ps)
whole_pairs [] = λ s. refl
whole_pairs (p ∷ ps) =
    members_append (shown_pair p) (flat_map shown_pair ps) (whole_part p.0 p.1) (whole_pairs ps)

pub whole_row : (fs : List NumberName) (ps : List Part) → AreMembers (shown_row fs ps)
whole_row fs ps = whole_pairs (zip fs ps)

-- a row as an entry of a list
abbrev pub row_entry : List NumberName → List Part → List Event
row_entry fs ps = entry_of (shown_row fs ps)

pub whole_row_entry : (fs : List NumberName) (ps : List Part) → AreEntries (row_entry fs ps)
whole_row_entry fs ps = whole_entry (shown_row fs ps) (whole_row fs ps)

-- a row, and a box after it, as members of one field
abbrev pub row_and_group : List NumberName → List Part → List ℕ → List Event → List Event
row_and_group fs ps name es = shown_row fs ps ++ shown_group name es

pub whole_row_and_group : (fs : List NumberName) (ps : List Part) (name : List ℕ) (es : List Event) → AreMembers es
    → AreMembers (row_and_group fs ps name es)
whole_row_and_group fs ps name es whole =
    members_append (shown_row fs ps) (shown_group name es) (whole_row fs ps) (whole_group name es whole)

-- a box that may be absent, as members of one field
abbrev pub group_if : {B : Type 0} → List ℕ → (B → List Event) → Option B → List Event
group_if name shown (Some b) = shown_group name (shown b)
group_if name shown None = []

pub whole_group_if : {B : Type 0} (name : List ℕ) (shown : B → List Event) → ((b : B) → AreMembers (shown b))
    → (b : Option B) → AreMembers (group_if name shown b)
whole_group_if name shown whole (Some b) = whole_group name (shown b) (whole b)
whole_group_if name shown whole None = λ s. refl

-- a row, and a box after it that may be absent
abbrev pub row_and_group_if : {B : Type 0} → List NumberName → List Part → List ℕ → (B → List Event) → Option B
    → List Event
row_and_group_if fs ps name shown b = shown_row fs ps ++ group_if name shown b

pub whole_row_and_group_if : {B : Type 0} (fs : List NumberName) (ps : List Part) (name : List ℕ)
    (shown : B → List Event) → ((b : B) → AreMembers (shown b)) → (b : Option B)
    → AreMembers (row_and_group_if fs ps name shown b)
whole_row_and_group_if fs ps name shown whole b =
    members_append (shown_row fs ps) (group_if name shown b) (whole_row fs ps) (whole_group_if name shown whole b)
