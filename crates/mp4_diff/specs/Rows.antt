-- The fields of a box as rows: a name, and the JSON text of the value or of each entry of a list.
use Rattle.std.specs.Prelude.{◌≡◌, ℕ, ◌+◌, ◌-◌, ◌^◌, ◌==◌, ◌&&◌, ◌||◌, min, nat_le, not, Bool, true, false, List, []}
use Rattle.std.specs.Prelude.{◌∷◌, ◌++◌, codes, fold, length, map, take, string_bytes, vec_items, None, Some}
use Rattle.std.specs.Prelude.{if◌then◌else◌, option_map}
use Rattle.std.specs.Borrow.{Bor}
use Rattle.std.specs.Str.{bytes_eq}
use Rattle.std.specs.declared.option.Option.{Option}
use Rattle.json.specs.Print.{print}
use Rattle.json.specs.Token.{Token}
use Rattle.mp4_frame.specs.FourCC.{number_of}
use Rattle.mp4_frame.specs.declared.codes.TheConstants as names
use Rattle.mp4_frame.specs.declared.four_cc.FourCC.{FourCC}
use Rattle.mp4_diff.specs.declared.rows.Row.{Row}
use Rattle.mp4_diff.specs.declared.rows.RowSink.{RowSink}
use Rattle.mp4_content.specs.Fields.{content_fields, json_view}
use Rattle.mp4_content.specs.declared.content.Content.{Content}
use Rattle.mp4_content.specs.declared.content.Content.TheVariants as contents
use Rattle.mp4_shown.specs.Event.{Event, Shown, shown_of}
use Rattle.mp4_shown.specs.Event as event
use Rattle.mp4_shown.specs.declared.value.Value.{Value}
use Rattle.mp4_shown.specs.declared.view.View.{View}
use Rattle.mp4_shown_json.specs.Tokens.{tokens_of, value_tokens}

-- a row: its name, whether it is a list, and the texts of its entries
abbrev pub FieldRow : Type 0
FieldRow = List ℕ × Bool × List (List ℕ)

abbrev pub row_of : Row → FieldRow
row_of row = (string_bytes row.name, row.is_list, map vec_items row.entries.items)

abbrev pub rows_of : List Row → List FieldRow
rows_of rows = map row_of rows

-- a row that may be missing
abbrev pub seen_row : Option (Bor Row) → Option FieldRow
seen_row row = option_map (λ r. row_of r.now) row

-- the name of the field with offsets into the file: the chunk offsets (ISO/IEC 14496-12, 8.7.5), and the offsets of
-- auxiliary information (8.7.9), of fragments (8.8.10 and 8.8.7), of the first part of an index (8.16.3) and of items
-- (8.11.3), which are shown as bytes
abbrev pub offset_name : ℕ → List ℕ
offset_name code =
    if (code == names.STCO) || (code == names.CO64) then codes "chunk_offset" else
    if code == names.SAIO then codes "offset" else
    if code == names.TFRA then codes "moof_offset" else
    if code == names.SIDX then codes "first_offset" else
    if code == names.TFHD then codes "base_data_offset" else
    if code == names.ILOC then codes "data_bytes" else []

abbrev pub has_offsets : Option FourCC → Bool
has_offsets None = false
has_offsets (Some code) = not (length (offset_name (number_of code)) == 0)

abbrev pub is_offset : Option FourCC → List ℕ → Bool
is_offset None name = false
is_offset (Some code) name = not (length name == 0) && bytes_eq (offset_name (number_of code)) name

-- a field that is left aside: one with offsets, unless these are asked for
abbrev pub is_aside : Bool → Option FourCC → List ℕ → Bool
is_aside offsets code name = not offsets && is_offset code name

-- The finished rows, and what is open: the names before those in each open group, the open list, and the open entry of
-- it. `nested` counts the open levels: 1 in a list, 2 in an entry of it. An entry is the text before it and its tokens.
pub record Rows : Type 0 where
  pub done : List FieldRow
  pub fronts : List (List ℕ)
  pub name : List ℕ
  pub entries : List (List ℕ)
  pub aside : Bool
  pub nested : ℕ
  pub before : List ℕ
  pub tokens : List Token
  pub leaves : List ℕ → Bool

abbrev pub last_front : List (List ℕ) → List ℕ
last_front [] = []
last_front (front ∷ []) = front
last_front (_ ∷ front ∷ fronts) = last_front (front ∷ fronts)

abbrev pub without_last : List (List ℕ) → List (List ℕ)
without_last fronts = take (length fronts - 1) fronts

abbrev pub full_name : Rows → List ℕ → List ℕ
full_name r name = last_front r.fronts ++ name

abbrev pub next_level : ℕ → ℕ
next_level n = min (n + 1) (2 ^ 64 - 1)

-- an event that goes on in the open entry
abbrev pub goes_on : Rows → Event → Rows
goes_on r here = record r { tokens = r.tokens ++ tokens_of here }

-- one more row
abbrev pub with_row : Rows → FieldRow → Rows
with_row r row = record r { done = r.done ++ (row ∷ []) }

abbrev pub then_value : Rows → List ℕ → Shown → Rows
then_value r name value = with_row r (full_name r name, false, print (value_tokens value) ∷ [])

-- an entry of the open list that is one value; it has no text if the list is left aside
abbrev pub then_item : Rows → Shown → Rows
then_item r value =
    record r { entries = r.entries ++ ((if r.aside then [] else print (value_tokens value)) ∷ []) }

-- the open entry ends
abbrev pub with_entry : Rows → Rows
with_entry r = record r { entries = r.entries ++ ((r.before ++ print r.tokens) ∷ []); before = []; tokens = [] }

-- the open list ends
abbrev pub with_list : Rows → Rows
with_list r =
    record r { done = r.done ++ ((r.name, true, r.entries) ∷ []); name = []; entries = []; nested = 0 }

-- the rows after one more event
abbrev pub then_row : Rows → Event → Rows
then_row r (event.field name value) =
    if r.leaves name then r else
    if r.nested == 0 then then_value r name value else goes_on r (event.field name value)
then_row r (event.begin_list name total) =
    if r.nested == 0
    then record r { name = full_name r name; aside = r.leaves name; nested = 1 }
    else record (goes_on r (event.begin_list name total)) { nested = next_level r.nested }
then_row r (event.item value) =
    if nat_le r.nested 1 then then_item r value else goes_on r (event.item value)
then_row r event.begin_entry = record (goes_on r event.begin_entry) { nested = next_level r.nested }
then_row r event.end_entry =
    if nat_le (r.nested - 1) 1
    then with_entry (record (goes_on r event.end_entry) { nested = r.nested - 1 })
    else record (goes_on r event.end_entry) { nested = r.nested - 1 }
then_row r event.end_list =
    if nat_le r.nested 1 then with_list r else record (goes_on r event.end_list) { nested = r.nested - 1 }
then_row r (event.begin_group name) =
    if r.nested == 0 then record r { fronts = r.fronts ++ ((full_name r name ++ codes ".") ∷ []) }
    else goes_on r (event.begin_group name)
then_row r event.end_group =
    if r.nested == 0 then record r { fronts = without_last r.fronts } else goes_on r event.end_group

-- before the first event
abbrev pub no_rows : (List ℕ → Bool) → Rows
no_rows leaves = record {
  done = [];
  fronts = [];
  name = [];
  entries = [];
  aside = false;
  nested = 0;
  before = [];
  tokens = [];
  leaves = leaves;
}

-- what a sink has taken
abbrev pub state_of : RowSink → Rows
state_of sink = record {
  done = rows_of sink.rows.items;
  fronts = map string_bytes sink.fronts.items;
  name = string_bytes sink.name;
  entries = map vec_items sink.entries.items;
  aside = sink.aside;
  nested = sink.nested;
  before = sink.entry.out.before;
  tokens = sink.entry.out.tokens;
  leaves = is_aside sink.offsets sink.code;
}

-- the text of a fault is sent, as the field `fault`
abbrev pub PutsFault : Rows → Rows → Type 0
PutsFault old new = (text : List ℕ) × (new ≡ then_row old (event.field (codes "fault") (event.text text)))

-- the fields of a content are sent, or its fault. A whole box is shown in this way, and a sound entry of QuickTime with
-- its version. The rate in version 2 of such an entry is a number
abbrev pub Puts : {A : Type 0} → (View → A → List Event) → Bool → Content A → Rows → Rows → Type 0
Puts shown quicktime (contents.Faulty fault) old new = PutsFault old new
Puts shown quicktime content old new =
    (rate : Value)
    × (new ≡ fold then_row old (content_fields (shown json_view) quicktime content (shown_of rate)))
