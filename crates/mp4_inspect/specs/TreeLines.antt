-- The text of a box: its line, and below it a line for each entry of its lists.
use Rattle.std.specs.Prelude.{◌≡◌, ℕ, ◌*◌, ◌==◌, false, List, [], ◌∷◌, ◌++◌, None, Some, chars, codes, decimal}
use Rattle.std.specs.Prelude.{length, replicate, if◌then◌else◌}
use Rattle.std.specs.List.{fold}
use Rattle.std.specs.declared.option.Option.{Option}
use Rattle.mp4_frame.specs.FourCC.{four_cc_of}
use Rattle.mp4_frame.specs.declared.codes.TheConstants as box_codes
use Rattle.mp4_frame.specs.declared.four_cc.FourCC.{FourCC}
use Rattle.mp4_content.specs.FaultText.{IsFaultText}
use Rattle.mp4_content.specs.Fields.{content_fields}
use Rattle.mp4_content.specs.declared.content.Content.{Content}
use Rattle.mp4_content.specs.declared.content.Content.TheVariants as contents
use Rattle.mp4_content.specs.Fields.{is_quicktime}
use Rattle.mp4_show.specs.Lines.{TextState, begun, with_colored, with_words}
use Rattle.mp4_show.specs.TextTrace.{then_text}
use Rattle.mp4_show.specs.Texts.{code_shown, colored}
use Rattle.mp4_show.specs.declared.look.Look.{Look}
use Rattle.mp4_shown.specs.Event.{Event, shown_of}
use Rattle.mp4_shown.specs.declared.value.Value.{Value}
use Rattle.mp4_shown.specs.declared.view.View.{View}
use Rattle.mp4_walk.specs.Names.{box_name}
use Rattle.mp4_walk.specs.Paths.{is_code}
use Rattle.mp4_walk.specs.declared.tree_box.TreeBox.{TreeBox}

-- the place of a box: its position and its length
abbrev pub place_text : TreeBox → List ℕ
place_text found = codes " @" ++ (decimal found.position ++ (codes " +" ++ decimal found.length))

-- the code of a box
abbrev pub type_text : Option FourCC → List ℕ
type_text None = codes "-"
type_text (Some code) = code_shown code.value

-- the beginning of the line of a box: two spaces for each box around it, its code in bold, and its place
unfoldable pub name_text : Look → TreeBox → List ℕ
name_text look found =
    replicate (2 * found.depth) 32 ++ colored look.color (codes "1") (type_text found.code)

abbrev pub head_text : Look → TreeBox → List ℕ
head_text look found = name_text look found ++ place_text found

-- words, unless there are none
abbrev pub words_if : TextState → List ℕ → TextState
words_if s words = if length words == 0 then s else with_words s words

-- words about a track, if the box is one
abbrev pub with_track : List ℕ → TreeBox → TextState → TextState
with_track words found s = if is_code (four_cc_of box_codes.TRAK) found.code then words_if s words else s

-- the name of boxes with a code for people, if it has one
unfoldable pub called : Option FourCC → Option (List ℕ)
called None = None
called (Some code) = box_name code.value

-- a word, and the name in brackets
abbrev pub with_name : List ℕ → List ℕ → List ℕ
with_name word name = word ++ ((if length word == 0 then codes "(" else codes " (") ++ (name ++ codes ")"))

abbrev pub called_text : List ℕ → Option (List ℕ) → List ℕ
called_text word None = word
called_text word (Some name) = with_name word name

abbrev pub faint_if : TextState → List ℕ → TextState
faint_if s words = if length words == 0 then s else with_colored s words (codes "2")

abbrev pub with_called : List ℕ → TreeBox → TextState → TextState
with_called word found s = faint_if s (called_text word (called found.code))

-- a sample entry has its name for people
abbrev pub with_entry_name : TreeBox → TextState → TextState
with_entry_name found s = if found.context.parent == box_codes.STSD then with_called [] found s else s

-- what the text shows of a box: the first entries of its lists
abbrev pub text_view : TextState → View
text_view s = record { rows = s.look.rows; columns = false }

-- the rest of the text of a box, by its content: its fields, its fault in red, or why it has none. A whole box is
-- shown in this way, and a sound entry of QuickTime with its version. The rate in version 2 of such an entry is a
-- number.
abbrev pub IsEnd : {A : Type 0} → (View → A → List Event) → TreeBox → Content A → TextState → TextState → Type 0
IsEnd shown found (contents.Faulty fault) old new =
    (text : List ℕ) × IsFaultText found fault text
    × (new ≡ with_colored old (codes "fault: " ++ text) (codes "31"))
IsEnd shown found contents.Unread old new = new ≡ with_called (codes "not read") found old
IsEnd shown found contents.Deep old new = new ≡ with_words old (codes "not gone into: in 32 boxes")
IsEnd shown found content old new =
    (rate : Value)
    × (new ≡ fold then_text old (content_fields (shown (text_view old)) (is_quicktime found) content (shown_of rate)))

-- what is shown after the head of a box
abbrev pub IsRestOf : {A : Type 0} → (View → A → List Event) → TreeBox → Content A → TextState → TextState → Type 0
IsRestOf shown found content old new =
    (track : List ℕ) × IsEnd shown found content (with_entry_name found (with_track track found old)) new

-- The text of a box of this content: its head and its rest, which begins in the column after the head. This is a record
-- so that a caller's proof doesn't compute it.
pub record IsText {A : Type 0} (shown : View → A → List Event) (look : Look) (found : TreeBox) (content : Content A)
    (text : List ℕ) : Type 0 where
  pub rest : TextState
  pub is_rest : IsRestOf shown found content (begun look found.depth (length (chars (head_text look found)))) rest
  pub is_text : text ≡ head_text look found ++ (rest.text ++ 10 ∷ [])
