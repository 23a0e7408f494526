-- A type that holds boxes of several types, such as an enum of them.
use Rattle.std.specs.Prelude.{◌≡◌, ℕ, List, Bool, true, false}
use Rattle.mp4_frame.specs.BoxType.{code_of}
use Rattle.mp4_frame.specs.Format.{Format}
use Rattle.mp4_frame.specs.Reading.{Reading, Invalid, faults, map_reading, reading}
use Rattle.mp4_frame.specs.declared.box_type.BoxType.{BoxType}

-- one type of boxes that E holds: its reading, its format, and the way its values become members of E
pub record Kind (E : Type 0) : Type 1 where
  pub Value : Type 0
  pub reads : List ℕ → ℕ → ℕ → Reading Value
  pub format : Format Value
  pub wrap : Value → E

abbrev pub kind : {A E : Type 0} → (List ℕ → ℕ → ℕ → Reading A) → Format A → (A → E) → Kind E
kind {A} reads format wrap = record { Value = A; reads = reads; format = format; wrap = wrap }

-- the type of boxes that a name gives, if E holds one
pub data Known (E : Type 0) : Type 1 where
  Unknown : Known E
  Is : Kind E → Known E

abbrev pub is_known : {E : Type 0} → Known E → Bool
is_known (Is k) = true
is_known Unknown = false

abbrev pub reading_known : {E : Type 0} → Known E → List ℕ → ℕ → ℕ → Reading E
reading_known (Is k) bytes start size = map_reading k.wrap (reading k.reads bytes start size)
reading_known Unknown bytes start size = faults Invalid

-- the format's values for one member of E; the normal form is a member of E too
pub record Held (E : Type 0) : Type 1 where
  pub name : BoxType
  pub size : ℕ
  pub Writable : Type 0
  pub bytes : List ℕ
  pub normal : E

abbrev pub holds : {A E : Type 0} → Format A → (A → E) → A → Held E
holds format wrap v =
    record {
      name = format.name v;
      size = format.size v;
      Writable = format.Writable v;
      bytes = format.bytes v;
      normal = wrap (format.normal v);
    }

-- the format of E
abbrev pub format_held : {E : Type 0} → (E → Held E) → Format E
format_held held = record {
  name = λ v. (held v).name;
  size = λ v. (held v).size;
  Writable = λ v. (held v).Writable;
  bytes = λ v. (held v).bytes;
  normal = λ v. (held v).normal;
}

-- the values of the type that a name gives, or the unit type if the name gives none
abbrev pub ValueOf : {E : Type 0} → Known E → Type 0
ValueOf (Is k) = k.Value
ValueOf Unknown = Unit {0}

-- the name of such a value as a member, or the given name if it gives no type
abbrev pub name_of_value : {E : Type 0} → (E → Held E) → BoxType → (k : Known E) → ValueOf k → BoxType
name_of_value held name (Is k) x = (held (k.wrap x)).name
name_of_value held name Unknown x = name

-- a box that is read under a name has a name of the same code, and is read alike under both names
abbrev pub NamedAsRead : {E : Type 0} → (BoxType → Known E) → (E → Held E) → Type 1
NamedAsRead kinds held = (name : BoxType) (x : ValueOf (kinds name)) →
    (code_of (name_of_value held name (kinds name) x) ≡ code_of name)
    × (kinds (name_of_value held name (kinds name) x) ≡ kinds name)

-- a box of some type, and the format of that type
pub record SomeBox : Type 1 where
  pub Value : Type 0
  pub format : Format Value
  pub value : Value

abbrev pub some_box : {A : Type 0} → Format A → A → SomeBox
some_box {A} format v = record { Value = A; format = format; value = v }

-- the box inside a member of E, and the way the values of its type become members of E
pub record Inside (E : Type 0) : Type 1 where
  pub box : SomeBox
  pub wrap : box.Value → E

abbrev pub boxed : {A E : Type 0} → Format A → (A → E) → A → Inside E
boxed format wrap v = record { box = some_box format v; wrap = wrap }

-- the format's values for the box inside a member
abbrev pub held_inside : {E : Type 0} → (E → Inside E) → E → Held E
held_inside inside v = holds (inside v).box.format (inside v).wrap (inside v).box.value
