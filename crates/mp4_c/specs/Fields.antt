-- The fields of a box that a call copies to a C caller: the status, the text in the caller's array, and its length.
use Rattle.std.specs.Prelude.{◌≡◌, ℕ, ◌⊎◌, ◌==◌, Bool, nat_le, List, length, None, Some, Result, Ok, Err}
use Rattle.std.specs.Prelude.{if◌then◌else◌}
use Rattle.std.specs.List.{slice_range}
use Rattle.std.specs.Str.{IsUtf8}
use Rattle.std.specs.declared.option.Option.{Option}
use Rattle.json.specs.Json.{Members, object}
use Rattle.json.specs.Print.{print}
use Rattle.json.specs.Tree.{json_tokens}
use Rattle.json.specs.Written.{Written}
use Rattle.mp4_c_boxes.specs.Calls.{Fills}
use Rattle.mp4_c_boxes.specs.Status.{status_of}
use Rattle.mp4_c_boxes.specs.declared.status.TheConstants.{OUT_OF_MEMORY}
use Rattle.mp4_c.specs.declared.fields.TheConstants.{UNKNOWN_BOX}
use Rattle.mp4_c.specs.Front.{front_known}
use Rattle.mp4_content.specs.Fields.{json_view, object_tokens}
use Rattle.mp4_frame.specs.Heads.{content_in, end_in, frame}
use Rattle.mp4_frame.specs.Reading.{Fault, Reading, Refuses}
use Rattle.mp4_frame.specs.declared.box_type.BoxType.{BoxType}
use Rattle.mp4_frame.specs.declared.codes.TheConstants.{URL}
use Rattle.mp4_frame.specs.declared.error.Error.{Error}
use Rattle.mp4_frame.specs.declared.frame.Frame.{Frame}
use Rattle.mp4_show.specs.Escaped.{json_escaped}
use Rattle.mp4_show.specs.FrontFields.{reference_fields}
use Rattle.mp4_shown.specs.Event.{Event}
use Rattle.mp4_shown.specs.declared.view.View.{View}
use Rattle.mp4_shown_json.specs.Tokens.{Puts}

-- the content of a whole box at the front, if it is a `url `
abbrev pub url_in : List ℕ → Result Frame Fault → Option (List ℕ)
url_in bytes (Ok f) = if f.code == URL then Some (slice_range bytes (content_in f) (end_in f)) else None
url_in bytes (Err fault) = None

abbrev pub front_url : List ℕ → Option (List ℕ)
front_url bytes = url_in bytes (frame bytes 0)

-- The fields of a box, of which its value has these. Those of a `url ` with version and flags are in its bytes, since
-- the codec keeps its text only if it is UTF-8.
abbrev pub fields_or : Option (List ℕ) → List Event → List Event
fields_or None es = es
fields_or (Some content) es = if nat_le 4 (length content) then reference_fields content else es

-- One whole object is written.
abbrev pub PutsObject : Written → Written → Type 0
PutsObject old new = (ms : Members) × Puts old new (json_tokens (object ms))

-- The text is that of these fields as an object, with escapes for some characters.
abbrev pub IsFieldsText : List Event → List ℕ → Type 0
IsFieldsText es text = text ≡ json_escaped (print (object_tokens es))

-- The text is that of one whole object in UTF-8.
abbrev pub IsWholeText : List ℕ → Type 0
IsWholeText text = (ms : Members) × ((text ≡ json_escaped (print (json_tokens (object ms)))) × IsUtf8 text)

-- The text of these fields is copied, or memory for it is refused.
abbrev pub CopiesFieldsText : List Event → ℕ → List ℕ → List ℕ → ℕ → ℕ → Type 0
CopiesFieldsText es status old new count_old count_new =
    ((text : List ℕ)
    × (IsFieldsText es text × (IsWholeText text × ((count_new ≡ length text) × Fills status text old new))))
    ⊎ ((status ≡ OUT_OF_MEMORY) × ((new ≡ old) × (count_new ≡ count_old)))

-- The box at the front is read, and the text of its fields is copied, which `shown` has for each box. Or boxes of its
-- name aren't known. Or the status is that of an error that the reading permits. After an error the caller's memory is
-- as it was.
abbrev pub CopiesFields : {A : Type 0} → (View → A → List Event) → (BoxType → Bool)
    → (BoxType → List ℕ → ℕ → ℕ → Reading A) → List ℕ → ℕ → List ℕ → List ℕ → ℕ → ℕ → Type 0
CopiesFields {A} shown known reading bytes status old new count_old count_new =
    ((v : A) × (((front_known known reading bytes).outcome ≡ Ok (Some v))
    × CopiesFieldsText (fields_or (front_url bytes) (shown json_view v)) status old new count_old count_new))
    ⊎ ((((front_known known reading bytes).outcome ≡ Ok None)
    × ((status ≡ UNKNOWN_BOX) × ((new ≡ old) × (count_new ≡ count_old))))
    ⊎ ((e : Error) × (Refuses e (front_known known reading bytes)
    × ((status ≡ status_of e) × ((new ≡ old) × (count_new ≡ count_old))))))
