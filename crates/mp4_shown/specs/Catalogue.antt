-- The types of declared boxes that an enum holds. A box is read and written, its fields are shown, and it is taken back
-- out of JSON, by the declaration of its type. Its code determines its type.
use Rattle.std.specs.Prelude.{◌≡◌, ℕ, ◌==◌, if◌then◌else◌, true, List, [], ◌∷◌, Option, None, Some, Ok}
use Rattle.mp4_declared.specs.Shape.{Shape}
use Rattle.mp4_declared.specs.ShapeLaws.{IsShape}
use Rattle.mp4_declared.specs.OwnBox.{OwnLayout, reads_declared, format_declared}
use Rattle.mp4_frame.specs.Format.{Format}
use Rattle.mp4_frame.specs.Reading.{Reading}
use Rattle.mp4_frame.specs.declared.box_type.BoxType.{BoxType}
use Rattle.mp4_frame.specs.BoxType.{code_of}
use Rattle.mp4_frame.specs.Members.{Kind, kind, Known, Unknown, Is, Inside, boxed}
use Rattle.mp4_shown.specs.Event.{Event}
use Rattle.mp4_shown.specs.Members.{AreMembers}
use Rattle.mp4_shown.specs.declared.view.View.{View}
use Rattle.mp4_shown.specs.Taking.{Taking, ◌>>=◌}
use Rattle.mp4_shown.specs.TakenShapes.{Takes, document_made}
use Rattle.json.specs.Json.{Json}

-- the declaration of the boxes with a code, and of their fields
pub record Declaration (code : ℕ) (V : Type 0) : Type 1 where
  pub Content : Type 0
  pub shape : Shape Content
  pub layout : OwnLayout code Content V
  pub laws : IsShape shape
  pub shown : View → V → List Event
  pub whole : (view : View) (v : V) → AreMembers (shown view v)
  pub taken : Takes V

-- the declaration with this layout and a shape with these laws
abbrev pub declared_as : {code : ℕ} {A V : Type 0} {shape : Shape A} → IsShape shape → OwnLayout code A V
    → (shown : View → V → List Event) → ((view : View) (v : V) → AreMembers (shown view v)) → Takes V
    → Declaration code V
declared_as {code} {A} {V} {shape} laws layout shown whole taken = record {
  Content = A;
  shape = shape;
  layout = layout;
  laws = laws;
  shown = shown;
  whole = whole;
  taken = taken;
}

-- the reading and the format of the boxes with a declaration
abbrev pub reads_as : {code : ℕ} {V : Type 0} → Declaration code V → List ℕ → ℕ → ℕ → Reading V
reads_as d = reads_declared d.shape d.layout

abbrev pub format_as : {code : ℕ} {V : Type 0} → Declaration code V → Format V
format_as d = format_declared d.shape d.layout

-- a declaration with a shape that is valid
pub record ValidDeclaration (code : ℕ) (V : Type 0) : Type 1 where
  pub is : Declaration code V
  pub valid : is.shape.valid ≡ true

abbrev pub valid_as : {code : ℕ} {V : Type 0} (is : Declaration code V) → is.shape.valid ≡ true
    → ValidDeclaration code V
valid_as is valid = record { is = is; valid = valid }

-- a type of boxes that E holds: its code, its struct of fields, and how these become a box
pub record Entry (E : Type 0) : Type 1 where
  pub code : ℕ
  pub Fields : Type 0
  pub wrap : Fields → E

abbrev pub entry : {E V : Type 0} → ℕ → (V → E) → Entry E
entry {E} {V} code wrap = record { code = code; Fields = V; wrap = wrap }

-- the type of this code among some types
abbrev pub type_among : {T E : Type 0} → (T → Entry E) → List T → ℕ → Option T
type_among entry_of [] code = None
type_among entry_of (t ∷ ts) code = if code == (entry_of t).code then Some t else type_among entry_of ts code

-- the types T of boxes that E holds: what is known of each, the type of a code, and the type of a box with its fields
pub record Catalogue (T E : Type 0) : Type 1 where
  pub entry_of : T → Entry E
  pub of_code : ℕ → Option T
  pub opened : E → (t : T) × (entry_of t).Fields

abbrev pub Declarations : {T E : Type 0} → Catalogue T E → Type 1
Declarations {T} c = (t : T) → ValidDeclaration (c.entry_of t).code (c.entry_of t).Fields

module _ {T E : Type 0} (c : Catalogue T E) (declared : Declarations c) where
  abbrev pub reads_of : (t : T) → List ℕ → ℕ → ℕ → Reading (c.entry_of t).Fields
  reads_of t = reads_as (declared t).is

  abbrev pub format_of : (t : T) → Format (c.entry_of t).Fields
  format_of t = format_as (declared t).is

  abbrev pub kind_of : T → Kind E
  kind_of t = kind (reads_of t) (format_of t) (c.entry_of t).wrap

  abbrev pub known_as : Option T → Known E
  known_as None = Unknown
  known_as (Some t) = Is (kind_of t)

  -- the type of the boxes with a name, by its code
  abbrev pub kinds : BoxType → Known E
  kinds name = known_as (c.of_code (code_of name))

  -- the box inside and its format
  abbrev pub inside : E → Inside E
  inside v = boxed (format_of (c.opened v).0) (c.entry_of (c.opened v).0).wrap (c.opened v).1

  -- the events of the box inside, which are whole members
  abbrev pub shown : View → E → List Event
  shown view v = (declared (c.opened v).0).is.shown view (c.opened v).1

  abbrev pub whole : (view : View) (v : E) → AreMembers (shown view v)
  whole view v = (declared (c.opened v).0).is.whole view (c.opened v).1

  -- the box that a text is, of a type
  abbrev pub type_document : T → Option Json → Taking E
  type_document t j = document_made (c.entry_of t).wrap (declared t).is.taken j

  abbrev pub document_if : Option T → Option Json → Taking (Option E)
  document_if None j = Ok None
  document_if (Some t) j = type_document t j >>= λ b. Ok (Some b)

  -- the box that a text is, of the type with a code, if there is one
  abbrev pub code_document : ℕ → Option Json → Taking (Option E)
  code_document code j = document_if (c.of_code code) j
