-- A declared entry of a list: bit fields, one after the other.
use Rattle.std.specs.Prelude.{◌≡◌, ℕ, suc, ◌==◌, ◌&&◌, nat_lt, Bool, true, if◌then◌else◌, List, [], ◌∷◌, slice_index}
use Rattle.mp4_frame.specs.Bytes.{number, be_bytes}
use Rattle.mp4_declared.specs.Bits.{bytes_in, joined, split, NumbersFit, are_fields}

-- a flag as a number
abbrev pub bit : Bool → ℕ
bit flag = if flag then 1 else 0

-- an entry: the widths of its fields in bits, the entry whose k-th number is n k, and the numbers of an entry
pub record EntryLayout (X : Type 0) : Type 0 where
  pub widths : List ℕ
  pub value : (ℕ → ℕ) → X
  pub numbers : X → List ℕ

-- the bytes of an entry: the single number that the numbers in its fields make
abbrev pub row_of : {X : Type 0} → EntryLayout X → X → List ℕ
row_of l x = be_bytes (bytes_in l.widths) (joined l.widths (l.numbers x))

abbrev pub entry_of : {X : Type 0} → EntryLayout X → List ℕ → X
entry_of l bytes = l.value (slice_index (split l.widths (number bytes 0 (bytes_in l.widths))))

abbrev pub FitsEntry : {X : Type 0} → EntryLayout X → X → Type 0
FitsEntry l x = NumbersFit l.widths (l.numbers x)

-- a field: a flag of one bit, or a number with its width in bits
pub data BitField : Type 0 where
  flag : BitField
  unsigned : ℕ → BitField

abbrev pub width_of : BitField → ℕ
width_of flag = 1
width_of (unsigned w) = w

abbrev pub widths_of : List BitField → List ℕ
widths_of [] = []
widths_of (f ∷ fs) = width_of f ∷ widths_of fs

-- the fields of these widths, where a field of a single bit is a flag
abbrev pub field_of : ℕ → BitField
field_of w = if w == 1 then flag else unsigned w

abbrev pub fields_of : List ℕ → List BitField
fields_of [] = []
fields_of (w ∷ ws) = field_of w ∷ fields_of ws

-- the values of a field
abbrev pub InField : BitField → Type 0
InField flag = Bool
InField (unsigned w) = ℕ

abbrev pub InFields : List BitField → Type 0
InFields [] = Unit {0}
InFields (f ∷ fs) = InField f × InFields fs

-- the value of a field as a number
abbrev pub number_of : (f : BitField) → InField f → ℕ
number_of flag v = bit v
number_of (unsigned w) v = v

abbrev pub numbers_of : (fs : List BitField) → InFields fs → List ℕ
numbers_of [] v = []
numbers_of (f ∷ fs) v = number_of f v.0 ∷ numbers_of fs v.1

-- the value of a field that a number stands for
abbrev pub value_of : (f : BitField) → ℕ → InField f
value_of flag n = n == 1
value_of (unsigned w) n = n

abbrev pub values_of : (fs : List BitField) → (ℕ → ℕ) → InFields fs
values_of [] n = tt
values_of (f ∷ fs) n = (value_of f (n 0), values_of fs (λ k. n (suc k)))

-- Fields of these widths fill e bytes, and e isn't 0.
abbrev pub fill : List ℕ → ℕ → Bool
fill ws e = are_fields ws && (bytes_in ws == e && nat_lt 0 e)

-- An entry of e bytes: its fields, the content of an entry, and the entry made from some content. The author shows that
-- the last two are inverse, and that the fields fill the bytes.
pub record OwnEntry (X : Type 0) (e : ℕ) : Type 0 where
  pub fields : List BitField
  pub content : X → InFields fields
  pub value : InFields fields → X
  pub back : (x : X) → value (content x) ≡ x
  pub again : (v : InFields fields) → content (value v) ≡ v
  pub whole : fill (widths_of fields) e ≡ true

abbrev pub packed : {X : Type 0} {e : ℕ} (fs : List BitField) (content : X → InFields fs) (value : InFields fs → X)
    → ((x : X) → value (content x) ≡ x) → ((v : InFields fs) → content (value v) ≡ v) → fill (widths_of fs) e ≡ true
    → OwnEntry X e
packed fs content value back again whole = record {
  fields = fs;
  content = content;
  value = value;
  back = back;
  again = again;
  whole = whole;
}

abbrev pub layout_in : {X : Type 0} {e : ℕ} → OwnEntry X e → EntryLayout X
layout_in o = record {
  widths = widths_of o.fields;
  value = λ n. o.value (values_of o.fields n);
  numbers = λ x. numbers_of o.fields (o.content x);
}
