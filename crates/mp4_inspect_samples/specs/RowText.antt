-- The text of a row, in each form.
use Rattle.std.specs.Prelude.{ℕ, ◌-◌, Bool, List, [], ◌++◌, length, replicate, min, codes, decimal}
use Rattle.std.specs.Prelude.{if◌then◌else◌, None, Some}
use Rattle.std.specs.declared.option.Option.{Option}
use Rattle.mp4_inspect_samples.specs.Times.{shown_text, time_text}
use Rattle.mp4_inspect_samples.specs.declared.clock.Clock.{Clock}
use Rattle.mp4_inspect_samples.specs.declared.row.Row.{Row}
use Rattle.mp4_inspect_samples.specs.declared.row.Shown.{Shown}
use Rattle.mp4_inspect_samples.specs.declared.row_text.Form.{Form}
use Rattle.mp4_inspect_samples.specs.declared.row_text.Form.TheVariants as forms

-- digits after spaces, so that both are of a width; at most 16 spaces
abbrev pub padded : ℕ → List ℕ → List ℕ
padded width digits = replicate (min (width - length digits) 16) 32 ++ digits

-- a number after some text
unfoldable pub column : List ℕ → ℕ → List ℕ
column before n = before ++ decimal n

-- a number after some text, or another text if it is unknown
unfoldable pub maybe_column : List ℕ → List ℕ → Option ℕ → List ℕ
maybe_column before unknown None = before ++ unknown
maybe_column before unknown (Some n) = column before n

-- times after some text, or another text where they are unknown
unfoldable pub time_column : List ℕ → List ℕ → Clock → ℕ → List ℕ
time_column before unknown clock time = before ++ time_text unknown clock time

unfoldable pub shown_column : List ℕ → List ℕ → Clock → Shown → List ℕ
shown_column before unknown clock time = before ++ shown_text unknown clock time

-- a number of a width after some text
unfoldable pub wide_column : List ℕ → ℕ → ℕ → List ℕ
wide_column before width n = before ++ padded width (decimal n)

unfoldable pub wide_time_column : List ℕ → ℕ → Clock → ℕ → List ℕ
wide_time_column before width clock time = before ++ padded width (time_text (codes "-") clock time)

unfoldable pub wide_shown_column : List ℕ → ℕ → Clock → Shown → List ℕ
wide_shown_column before width clock time = before ++ padded width (shown_text (codes "-") clock time)

abbrev pub sync_number : Bool → ℕ
sync_number is_sync = if is_sync then 1 else 0

-- the columns between commas
unfoldable pub csv_place : Row → List ℕ
csv_place r = maybe_column (codes "") (codes "") r.track
    ++ (column (codes ",") r.number ++ (column (codes ",") r.offset))

unfoldable pub csv_time : Row → List ℕ
csv_time r = column (codes ",") r.size
    ++ (time_column (codes ",") [] r.clock r.decode_time ++ (shown_column (codes ",") [] r.clock r.presentation))

unfoldable pub csv_kind : Row → List ℕ
csv_kind r = time_column (codes ",") [] r.clock r.duration
    ++ (column (codes ",") (sync_number r.is_sync) ++ (column (codes ",") r.description
    ++ (maybe_column (codes ",") [] r.clock.timescale)))

unfoldable pub csv_text : Row → List ℕ
csv_text r = csv_place r ++ (csv_time r ++ (csv_kind r ++ codes "\n"))

-- a JSON object (RFC 8259) with the columns as its members
unfoldable pub json_place : Row → List ℕ
json_place r = maybe_column (codes "{\"track\": ") (codes "null") r.track
    ++ (column (codes ", \"number\": ") r.number ++ (column (codes ", \"offset\": ") r.offset))

unfoldable pub json_time : Row → List ℕ
json_time r =
    column (codes ", \"size\": ") r.size ++ time_column (codes ", \"decode_time\": ") (codes "null") r.clock
    r.decode_time

unfoldable pub json_shown : Row → List ℕ
json_shown r = shown_column (codes ", \"presentation_time\": ") (codes "null") r.clock r.presentation

unfoldable pub json_front : Row → List ℕ
json_front r = json_place r ++ (json_time r ++ json_shown r)

unfoldable pub json_duration : Row → List ℕ
json_duration r = time_column (codes ", \"duration\": ") (codes "null") r.clock r.duration

unfoldable pub json_sync : Row → List ℕ
json_sync r = column (codes ", \"sync\": ") (sync_number r.is_sync)

unfoldable pub json_entry : Row → List ℕ
json_entry r = column (codes ", \"description\": ") r.description
    ++ maybe_column (codes ", \"timescale\": ") (codes "null") r.clock.timescale

unfoldable pub json_kind : Row → List ℕ
json_kind r = json_duration r ++ (json_sync r ++ json_entry r)

unfoldable pub json_text : Row → List ℕ
json_text r = json_front r ++ (json_kind r ++ codes "}")

-- aligned columns, without the track
unfoldable pub plain_place : Row → List ℕ
plain_place r = wide_column (codes "") 8 r.number
    ++ (wide_column (codes "  ") 12 r.offset ++ (wide_column (codes "  ") 9 r.size))

unfoldable pub plain_time : Row → List ℕ
plain_time r = wide_time_column (codes "  ") 12 r.clock r.decode_time
    ++ (wide_shown_column (codes "  ") 17 r.clock r.presentation ++ (wide_time_column (codes "  ") 9 r.clock
    r.duration))

unfoldable pub plain_kind : Row → List ℕ
plain_kind r = wide_column (codes "  ") 4 (sync_number r.is_sync) ++ (wide_column (codes "  ") 11 r.description)

unfoldable pub plain_text : Row → List ℕ
plain_text r = plain_place r ++ (plain_time r ++ (plain_kind r ++ codes "\n"))

-- the text of a row: as JSON after a comma if it follows another
abbrev pub row_text : Form → Bool → Row → List ℕ
row_text forms.Text follows r = plain_text r
row_text forms.Csv follows r = csv_text r
row_text forms.Json follows r = (if follows then codes ",\n" else codes "\n") ++ json_text r
