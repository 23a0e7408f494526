-- The text of the row of a moof, in each form.
use Rattle.std.specs.Prelude.{ℕ, Bool, List, ◌++◌, codes, if◌then◌else◌, None, Some}
use Rattle.std.specs.declared.option.Option.{Option}
use Rattle.mp4_inspect_samples.specs.RowText.{column, maybe_column, padded, time_column, wide_column, wide_time_column}
use Rattle.mp4_inspect_samples.specs.declared.clock.Clock.{Clock}
use Rattle.mp4_inspect_samples.specs.declared.row_text.Form.{Form}
use Rattle.mp4_inspect_samples.specs.declared.row_text.Form.TheVariants as forms
use Rattle.mp4_inspect_samples.specs.declared.segment_text.Segment.{Segment}

-- a time after some text, or another text if it is unknown
unfoldable pub maybe_time_column : List ℕ → List ℕ → Clock → Option ℕ → List ℕ
maybe_time_column before unknown clock None = before ++ unknown
maybe_time_column before unknown clock (Some time) = time_column before unknown clock time

-- numbers and times of a width after some text, or a dash if they are unknown
unfoldable pub wide_maybe_column : List ℕ → ℕ → Option ℕ → List ℕ
wide_maybe_column before width None = before ++ padded width (codes "-")
wide_maybe_column before width (Some n) = wide_column before width n

unfoldable pub wide_maybe_time_column : List ℕ → ℕ → Clock → Option ℕ → List ℕ
wide_maybe_time_column before width clock None = before ++ padded width (codes "-")
wide_maybe_time_column before width clock (Some time) = wide_time_column before width clock time

-- the columns between commas
unfoldable pub csv_bytes : Segment → List ℕ
csv_bytes r = column (codes "") r.number ++ (column (codes ",") r.offset ++ column (codes ",") r.size)

unfoldable pub csv_times : Segment → List ℕ
csv_times r = maybe_column (codes ",") (codes "") r.track
    ++ (maybe_time_column (codes ",") (codes "") r.clock r.start
    ++ (maybe_time_column (codes ",") (codes "") r.clock r.duration
    ++ maybe_column (codes ",") (codes "") r.clock.timescale))

unfoldable pub csv_segment : Segment → List ℕ
csv_segment r = csv_bytes r ++ (csv_times r ++ codes "\n")

-- a JSON object (RFC 8259) with the columns as its members
unfoldable pub json_bytes : Segment → List ℕ
json_bytes r = column (codes "{\"number\": ") r.number
    ++ (column (codes ", \"offset\": ") r.offset ++ column (codes ", \"size\": ") r.size)

unfoldable pub json_times : Segment → List ℕ
json_times r = maybe_column (codes ", \"track\": ") (codes "null") r.track
    ++ maybe_time_column (codes ", \"start\": ") (codes "null") r.clock r.start

unfoldable pub json_front : Segment → List ℕ
json_front r = json_bytes r ++ json_times r

unfoldable pub json_end : Segment → List ℕ
json_end r = maybe_time_column (codes ", \"duration\": ") (codes "null") r.clock r.duration
    ++ maybe_column (codes ", \"timescale\": ") (codes "null") r.clock.timescale

unfoldable pub json_segment : Segment → List ℕ
json_segment r = json_front r ++ (json_end r ++ codes "}")

-- aligned columns
unfoldable pub plain_bytes : Segment → List ℕ
plain_bytes r = wide_column (codes "") 8 r.number
    ++ (wide_column (codes "  ") 12 r.offset ++ wide_column (codes "  ") 11 r.size)

unfoldable pub plain_times : Segment → List ℕ
plain_times r = wide_maybe_column (codes "  ") 10 r.track
    ++ (wide_maybe_time_column (codes "  ") 12 r.clock r.start
    ++ wide_maybe_time_column (codes "  ") 12 r.clock r.duration)

unfoldable pub plain_segment : Segment → List ℕ
plain_segment r = plain_bytes r ++ (plain_times r ++ codes "\n")

-- the text of a row: as JSON after a comma if it follows another
abbrev pub segment_text : Form → Bool → Segment → List ℕ
segment_text forms.Text follows r = plain_segment r
segment_text forms.Csv follows r = csv_segment r
segment_text forms.Json follows r = (if follows then codes ",\n" else codes "\n") ++ json_segment r

-- the text before the rows of a file: the names of the columns
abbrev pub names_text : Form → List ℕ
names_text forms.Text = codes "  number        offset         size       track         start      duration\n"
names_text forms.Csv = codes "number,offset,size,track,start,duration,timescale\n"
names_text forms.Json = codes "["
