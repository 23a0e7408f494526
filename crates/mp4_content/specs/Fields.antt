-- The events of the fields of a box that are shown, by how the box is read.
use Rattle.std.specs.Prelude.{ℕ, ◌-◌, ◌^◌, ◌==◌, ◌&&◌, Bool, true, nat_le, nat_lt, List, [], ◌∷◌, ◌++◌, length}
use Rattle.std.specs.Prelude.{if◌then◌else◌}
use Rattle.json.specs.Token.{Token}
use Rattle.mp4_frame.specs.Bytes.{number as uint}
use Rattle.mp4_show.specs.FrontFields.{entry_fields, head_fields, list_fields, reference_fields}
use Rattle.mp4_show.specs.FrontFields.{sound_fields, terminator_fields, usertype_fields, visual_fields}
use Rattle.mp4_shown.specs.Event.{Event, Shown}
use Rattle.mp4_shown.specs.declared.view.View.{View}
use Rattle.mp4_shown_json.specs.Tokens.{all_tokens}
use Rattle.uuid.specs.Text.{hyphenated_text, lower}
use Rattle.mp4_content.specs.declared.content.Content.{Content}
use Rattle.mp4_content.specs.declared.content.Content.TheVariants as contents
use Rattle.mp4_content.specs.declared.kind.Kind.{Kind}
use Rattle.mp4_content.specs.declared.kind.Kind.TheVariants as kinds
use Rattle.mp4_walk.specs.declared.tree_box.TreeBox.{TreeBox}

-- how a box is shown in JSON: whole
abbrev pub json_view : View
json_view = record { rows = 2 ^ 64 - 1; columns = true }

-- fields as one object
abbrev pub object_tokens : List Event → List Token
object_tokens es = Token.begin_object ∷ (all_tokens es ++ Token.end_object ∷ [])

-- the box is in the sample descriptions of a QuickTime file
abbrev pub is_quicktime : TreeBox → Bool
is_quicktime found = found.context.stsd_version == 0

-- QuickTime's version of a sound entry is left out if it is 0
abbrev pub has_version : Bool → List ℕ → Bool
has_version quicktime xs = quicktime && nat_lt 0 (uint xs 8 2)

-- fields that take `least` bytes, and none if there are fewer
abbrev pub fields_if : ℕ → List ℕ → List Event → List Event
fields_if least xs es = if nat_le least (length xs) then es else []

-- the fields in these bytes at the front of a box of this kind, unless it is a sound entry
abbrev pub plain_fields : Kind → List ℕ → List Event
plain_fields kinds.Full xs = fields_if 4 xs (head_fields xs)
plain_fields kinds.List xs = fields_if 8 xs (list_fields xs)
plain_fields kinds.Entry xs = fields_if 8 xs (entry_fields xs)
plain_fields kinds.Visual xs = fields_if 78 xs (visual_fields xs)
plain_fields kinds.Terminator xs = terminator_fields
plain_fields kinds.Reference xs = fields_if 4 xs (reference_fields xs)
plain_fields kinds.Uuid xs = if length xs == 16 then usertype_fields (hyphenated_text lower xs) else []
plain_fields _ xs = []

-- the fields in these bytes at the front of a box of this kind, and this rate in version 2 of a sound entry
abbrev pub front_fields : Kind → Bool → List ℕ → Shown → List Event
front_fields kinds.Sound quicktime xs rate = fields_if 28 xs (sound_fields (has_version quicktime xs) xs rate)
front_fields kind quicktime xs rate = plain_fields kind xs

-- the fields of this content, of which a whole box is shown in this way
abbrev pub content_fields : {A : Type 0} → (A → List Event) → Bool → Content A → Shown → List Event
content_fields shown quicktime (contents.Known v) rate = shown v
content_fields shown quicktime (contents.Front kind v) rate = front_fields kind quicktime v.items rate
content_fields shown quicktime _ rate = []
