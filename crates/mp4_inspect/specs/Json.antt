-- The JSON of a file, in tokens (RFC 8259).
use Rattle.std.specs.Prelude.{◌≡◌, ℕ, zero, suc, ◌-◌, ◌||◌, min, Bool, false}
use Rattle.std.specs.Prelude.{List, [], ◌∷◌, ◌++◌, codes, decimal}
use Rattle.std.specs.Prelude.{IfSome}
use Rattle.std.specs.Prelude.{None, Some, if◌then◌else◌}
use Rattle.std.specs.Io.KnownBytes.{Appends}
use Rattle.std.specs.declared.option.Option.{Option}
use Rattle.json.specs.Print.{print}
use Rattle.json.specs.Token.{Token}
use Rattle.mp4_frame.specs.Reading.{Reading}
use Rattle.mp4_frame.specs.declared.box_type.BoxType.{BoxType}
use Rattle.mp4_frame.specs.declared.four_cc.FourCC.{FourCC}
use Rattle.mp4_content.specs.Content.{ShowsAs, is_faulty}
use Rattle.mp4_content.specs.FaultText.{IsFaultText}
use Rattle.mp4_content.specs.Fields.{front_fields, is_quicktime, json_view, object_tokens}
use Rattle.mp4_content.specs.Kind.{kind_of}
use Rattle.mp4_content.specs.declared.content.Content.{Content}
use Rattle.mp4_content.specs.declared.content.Content.TheVariants as contents
use Rattle.mp4_show.specs.Escaped.{json_escaped}
use Rattle.mp4_shown.specs.Event.{Event, shown_of}
use Rattle.mp4_shown.specs.declared.value.Value.{Value}
use Rattle.mp4_shown.specs.declared.view.View.{View}
use Rattle.mp4_shown_json.specs.Tokens.{code_text}
use Rattle.mp4_shown_json.specs.Whole.{IsWhole}
use Rattle.mp4_walk.specs.FileBoxes.{boxes_of}
use Rattle.mp4_walk.specs.declared.tree_box.TreeBox.{TreeBox}

-- a member that is a number
abbrev pub number_member : List ℕ → ℕ → List Token
number_member name n = Token.key name ∷ Token.number (decimal n) ∷ []

-- a code as it is written, or null if there is none
abbrev pub type_token : Option FourCC → Token
type_token None = Token.null
type_token (Some code) = Token.string (code_text code.value)

-- the first members of the object of a box
abbrev pub head_tokens : TreeBox → List Token
head_tokens found =
    Token.begin_object ∷ Token.key (codes "type") ∷ type_token found.code
    ∷ (number_member (codes "position") found.position
    ++ (number_member (codes "length") found.length ++ number_member (codes "header") found.header_length))

-- the member with the object of the fields of a box
abbrev pub fields_tokens : List Event → List Token
fields_tokens es = Token.key (codes "fields") ∷ object_tokens es

-- the next member of the object of a box, by its content: its fields, its fault or nothing. A whole box is shown in
-- this way, and a sound entry of QuickTime with its version. The rate in version 2 of such an entry is a number.
abbrev pub IsRest : {A : Type 0} → (View → A → List Event) → TreeBox → Content A → List Token → Type 0
IsRest shown found (contents.Faulty fault) ts =
    (text : List ℕ) × IsFaultText found fault text × (ts ≡ Token.key (codes "fault") ∷ Token.string text ∷ [])
IsRest shown found (contents.Known value) ts = ts ≡ fields_tokens (shown json_view value)
IsRest shown found (contents.Front kind bytes) ts =
    (rate : Value) × (ts ≡ fields_tokens (front_fields kind (is_quicktime found) bytes.items (shown_of rate)))
IsRest shown found _ ts = ts ≡ []

-- the end of the object; in a box with children, the beginning of these, and the object ends after them
abbrev pub end_tokens : Option ℕ → List Token
end_tokens None = Token.end_object ∷ []
end_tokens (Some first) = Token.key (codes "children") ∷ Token.begin_array ∷ []

-- `n` open containers end
abbrev pub levels_end : ℕ → List Token
levels_end zero = []
levels_end (suc n) = Token.end_array ∷ Token.end_object ∷ levels_end n

-- the number of open containers after a box at this depth
abbrev pub open_inside : ℕ → Option ℕ → ℕ
open_inside n None = n
open_inside n (Some first) = suc n

abbrev pub open_after : ℕ → TreeBox → ℕ
open_after begun found = open_inside (min found.depth begun) found.children

-- a box, with `n` containers open before it: those that do not contain it end, and it begins
abbrev pub box_tokens : ℕ → TreeBox → List Token → List Token
box_tokens begun found rest =
    levels_end (begun - found.depth) ++ (head_tokens found ++ (rest ++ end_tokens found.children))

-- the output for this box after its head, and whether it has a fault. If the bytes of the file are known, they and the
-- kind of the box decide it
abbrev pub IsShown : {A : Type 0} → (BoxType → Bool) → (BoxType → List ℕ → ℕ → ℕ → Reading A)
    → (View → A → List Event) → Option (List ℕ) → TreeBox → List Token → Bool → Type 0
IsShown {A} known reading shown bytes found rest faulty =
    (content : Content A) × IfSome bytes (λ B. ShowsAs known reading B found (kind_of known found) content)
    × IsRest shown found content rest × (faulty ≡ is_faulty content)

-- the remaining boxes in order, with `n` containers open before them, and then the ends of all open containers; and
-- whether one of the boxes has a fault
abbrev pub AreBoxes : {A : Type 0} → (BoxType → Bool) → (BoxType → List ℕ → ℕ → ℕ → Reading A)
    → (View → A → List Event) → Option (List ℕ) → ℕ → List TreeBox → List Token → Bool → Type 0
AreBoxes known reading shown bytes begun [] ts faulty = (ts ≡ levels_end begun) × (faulty ≡ false)
AreBoxes known reading shown bytes begun (found ∷ boxes) ts faulty =
    (rest more : List Token) × (here there : Bool) × IsShown known reading shown bytes found rest here
    × AreBoxes known reading shown bytes (open_after begun found) boxes more there
    × (ts ≡ box_tokens begun found rest ++ more) × (faulty ≡ (here || there))

-- the first members of the object of a file
abbrev pub file_tokens : List ℕ → List Token
file_tokens name =
    Token.begin_object ∷ Token.key (codes "file") ∷ Token.string name ∷ Token.key (codes "boxes") ∷
    Token.begin_array ∷ []

-- the tokens of a file: an object with its name and its boxes; and whether one of these has a fault
abbrev pub Json : {A : Type 0} → (BoxType → Bool) → (BoxType → List ℕ → ℕ → ℕ → Reading A) → (View → A → List Event)
    → Option (List ℕ) → List ℕ → List TreeBox → List Token → Bool → Type 0
Json known reading shown bytes name boxes ts faulty =
    (inner : List Token) × AreBoxes known reading shown bytes 0 boxes inner faulty
    × (ts ≡ file_tokens name ++ (inner ++ Token.end_array ∷ Token.end_object ∷ []))

-- a text is a print of these tokens, in which some characters are shown by their numbers, and the tokens are one whole
-- value
abbrev pub IsJson : {A : Type 0} → (BoxType → Bool) → (BoxType → List ℕ → ℕ → ℕ → Reading A) → (View → A → List Event)
    → Option (List ℕ) → List ℕ → List TreeBox → List ℕ → Bool → Type 0
IsJson known reading shown bytes name boxes text faulty =
    (ts : List Token) × Json known reading shown bytes name boxes ts faulty × IsWhole ts
    × (text ≡ json_escaped (print ts))

-- the comma between files
abbrev pub comma : Bool → List ℕ
comma follows = if follows then codes ",\n" else []

-- the JSON of a file with these bytes is written, after a comma if it follows another
abbrev pub WritesJson : {A : Type 0} → (BoxType → Bool) → (BoxType → List ℕ → ℕ → ℕ → Reading A)
    → (View → A → List Event) → List ℕ → List ℕ → Bool → Option (List ℕ) → Option (List ℕ) → Bool → Type 0
WritesJson known reading shown bytes name follows old new faulty =
    (text : List ℕ) × IsJson known reading shown (Some bytes) name (boxes_of bytes) text faulty
    × Appends old new (comma follows ++ text)
