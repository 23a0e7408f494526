-- A row of elst has 20 bytes in version 1: segment_duration 8, media_time 8, media_rate 2, media_rate_fraction 2. In
-- every other version it has 12 bytes: 4, 4, 2, 2.
use Rattle.std.specs.Prelude.{ℕ, ◌+◌, ◌==◌, Bool, List, [], ◌∷◌, if◌then◌else◌}
use Rattle.mp4_frame.specs.Bytes.{number, bytes_of_fields, FieldsFit}
use Rattle.mp4_tables.specs.declared.elst_entry.ElstEntry.{ElstEntry}

-- the rows of this version are long
abbrev pub is_long : ℕ → Bool
is_long version = version == 1

abbrev pub row_length : Bool → ℕ
row_length long = if long then 20 else 12

-- the number of bytes of a duration, and of a time
abbrev pub time_width : Bool → ℕ
time_width long = if long then 8 else 4

-- the entry whose times have w bytes, where `at o w` is the number of w bytes at offset o of its row
abbrev pub value_elst_entry : ℕ → (ℕ → ℕ → ℕ) → ElstEntry
value_elst_entry w at =
    record {
      segment_duration = at 0 w;
      media_time = at w w;
      media_rate = at (w + w) 2;
      media_rate_fraction = at (w + w + 2) 2;
    }

abbrev pub entry_elst : Bool → List ℕ → ElstEntry
entry_elst long row = value_elst_entry (time_width long) (number row)

abbrev pub fields_elst_entry : Bool → ElstEntry → List (ℕ × ℕ)
fields_elst_entry long e =
    (time_width long, e.segment_duration) ∷ (time_width long, e.media_time) ∷ (2, e.media_rate)
    ∷ (2, e.media_rate_fraction) ∷ []

abbrev pub row_elst : Bool → ElstEntry → List ℕ
row_elst long e = bytes_of_fields (fields_elst_entry long e)

abbrev pub FitsElstEntry : Bool → ElstEntry → Type 0
FitsElstEntry long e = FieldsFit (fields_elst_entry long e)
