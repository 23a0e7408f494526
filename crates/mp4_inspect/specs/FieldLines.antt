-- The lines that `get` writes for a field of boxes.
use Rattle.std.specs.Prelude.{◌≡◌, ℕ, Bool, List, [], Option, option_and_then}
use Rattle.std.specs.Option.{is_some, unwrap_or}
use Rattle.json.specs.Json.{Json, if_last, max_depth, value}
use Rattle.mp4_content.specs.Content.{ShowsAs}
use Rattle.mp4_content.specs.Fields.{content_fields, is_quicktime, json_view, object_tokens}
use Rattle.mp4_content.specs.Kind.{kind_of}
use Rattle.mp4_content.specs.declared.content.Content.{Content}
use Rattle.mp4_frame.specs.Reading.{Reading}
use Rattle.mp4_frame.specs.declared.box_type.BoxType.{BoxType}
use Rattle.mp4_inspect.specs.Field.{line_at}
use Rattle.mp4_inspect.specs.InTurn.{BoxText}
use Rattle.mp4_shown.specs.Event.{Event, shown_of}
use Rattle.mp4_shown.specs.declared.value.Value.{Value}
use Rattle.mp4_shown.specs.declared.view.View.{View}
use Rattle.mp4_walk.specs.declared.tree_box.TreeBox.{TreeBox}

-- the object of fields, if arrays and objects nest no deeper in it than JSON is read
abbrev pub object_of : List Event → Option Json
object_of es = option_and_then (λ p. if_last p.0 p.1) (value max_depth (object_tokens es))

-- the line of a field among those that a content shows; the rate in version 2 of QuickTime's sound entry is a number
abbrev pub IsLine : {A : Type 0} → (View → A → List Event) → List ℕ → TreeBox → Content A → Option (List ℕ) → Type 0
IsLine shown field found content line =
    (rate : Value)
    × (line ≡ line_at field (object_of (content_fields (shown json_view) (is_quicktime found) content (shown_of rate))))

-- the line of a field of a box, if the box has the field; its content is read by its kind
abbrev pub HasLine : {A : Type 0} → (BoxType → Bool) → (BoxType → List ℕ → ℕ → ℕ → Reading A)
    → (View → A → List Event) → List ℕ → List ℕ → TreeBox → Option (List ℕ) → Type 0
HasLine {A} known reading shown field bytes found line =
    (content : Content A) × ShowsAs known reading bytes found (kind_of known found) content
    × IsLine shown field found content line

-- the same with no text instead of no line, and whether there is a line
abbrev pub TellsLine : {A : Type 0} → (BoxType → Bool) → (BoxType → List ℕ → ℕ → ℕ → Reading A)
    → (View → A → List Event) → List ℕ → List ℕ → BoxText
TellsLine known reading shown field bytes found text any =
    (line : Option (List ℕ)) × HasLine known reading shown field bytes found line × (text ≡ unwrap_or line [])
    × (any ≡ is_some line)
