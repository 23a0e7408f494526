-- The header and the runs of a track fragment for C, and the boxes that are built from them. A field that a box doesn't
-- have is 0, and its flag isn't set.
use Rattle.std.specs.Prelude.{ℕ, pos, Bool, List, [], Option, Some, None, unwrap_or, if◌then◌else◌, length, map, max}
use Rattle.std.specs.Prelude.{slice_index}
use Rattle.std.specs.List.{range_with_len}
use Rattle.mp4_tables.specs.declared.tfhd.TheConstants.TfhdBox as flags
use Rattle.mp4_tables.specs.declared.trun.TheConstants.TrunBox as run_flags
use Rattle.mp4_c_boxes.specs.declared.fragments.Column.TheVariants as columns
use Rattle.mp4_tables.specs.Flagged.{is_set}
use Rattle.mp4_tables.specs.declared.tfhd.TfhdBox.{TfhdBox}
use Rattle.mp4_c_boxes.specs.declared.fragments.Tfhd.{Tfhd}
use Rattle.mp4_tables.specs.declared.trun.TrunBox.{TrunBox}
use Rattle.mp4_c_boxes.specs.declared.fragments.TrunRow.{TrunRow}
use Rattle.mp4_c_boxes.specs.declared.fragments.TrunTable.{TrunTable}
use Rattle.mp4_c_boxes.specs.declared.fragments.Column.{Column}

-- a number, if its flag is set
abbrev pub if_set : {A : Type 0} → Bool → A → Option A
if_set is_flagged n = if is_flagged then Some n else None

abbrev pub fields_tfhd : TfhdBox → Tfhd
fields_tfhd v = record {
  base_data_offset = unwrap_or v.base_data_offset 0;
  flags = v.flags;
  track_id = v.track_id;
  sample_description_index = unwrap_or v.sample_description_index 0;
  default_sample_duration = unwrap_or v.default_sample_duration 0;
  default_sample_size = unwrap_or v.default_sample_size 0;
  default_sample_flags = unwrap_or v.default_sample_flags 0;
  version = v.version;
}

-- the box of this struct, with the optional fields whose flags are set
abbrev pub tfhd_of : Tfhd → TfhdBox
tfhd_of t = record {
  version = t.version;
  flags = t.flags;
  track_id = t.track_id;
  base_data_offset = if_set (is_set t.flags flags.FLAG_BASE_DATA_OFFSET) t.base_data_offset;
  sample_description_index =
      if_set (is_set t.flags flags.FLAG_SAMPLE_DESCRIPTION_INDEX) t.sample_description_index;
  default_sample_duration = if_set (is_set t.flags flags.FLAG_DEFAULT_SAMPLE_DURATION) t.default_sample_duration;
  default_sample_size = if_set (is_set t.flags flags.FLAG_DEFAULT_SAMPLE_SIZE) t.default_sample_size;
  default_sample_flags = if_set (is_set t.flags flags.FLAG_DEFAULT_SAMPLE_FLAGS) t.default_sample_flags;
}

-- the number of rows of a run: the length of the longest of its four lists, since a list that the run doesn't have is
-- empty
abbrev pub count_trun : TrunBox → ℕ
count_trun v = max (max (length v.sample_durations) (length v.sample_sizes))
    (max (length v.sample_flags) (length v.sample_cts))

-- the row of sample i, with 0 for each list that the run doesn't have
abbrev pub row_trun : TrunBox → ℕ → TrunRow
row_trun v i = record {
  duration = slice_index v.sample_durations i;
  size = slice_index v.sample_sizes i;
  flags = slice_index v.sample_flags i;
  composition_offset = slice_index v.sample_cts i;
}

abbrev pub rows_trun : TrunBox → List TrunRow
rows_trun v = map (row_trun v) (range_with_len 0 (count_trun v))

-- the struct of a run, with 0 for each optional field that isn't present
abbrev pub table_trun : TrunBox → TrunTable
table_trun v = record {
  count = count_trun v;
  flags = v.flags;
  sample_count = v.sample_count;
  data_offset = unwrap_or v.data_offset (pos 0);
  first_sample_flags = unwrap_or v.first_sample_flags 0;
  version = v.version;
}

-- the number of a row in a column
abbrev pub column_in : Column → TrunRow → ℕ
column_in columns.Duration r = r.duration
column_in columns.Size r = r.size
column_in columns.Flags r = r.flags
column_in columns.CompositionOffset r = r.composition_offset

-- the numbers of the rows in a column if its flag is set, else none
abbrev pub column_if : Bool → Column → List TrunRow → List ℕ
column_if is_flagged column rows = if is_flagged then map (column_in column) rows else []

-- the run that has the optional fields and the columns whose flags are set
abbrev pub trun_of : TrunTable → List TrunRow → TrunBox
trun_of t rows = record {
  version = t.version;
  flags = t.flags;
  sample_count = t.sample_count;
  data_offset = if_set (is_set t.flags run_flags.FLAG_DATA_OFFSET) t.data_offset;
  first_sample_flags = if_set (is_set t.flags run_flags.FLAG_FIRST_SAMPLE_FLAGS) t.first_sample_flags;
  sample_durations = column_if (is_set t.flags run_flags.FLAG_SAMPLE_DURATION) columns.Duration rows;
  sample_sizes = column_if (is_set t.flags run_flags.FLAG_SAMPLE_SIZE) columns.Size rows;
  sample_flags = column_if (is_set t.flags run_flags.FLAG_SAMPLE_FLAGS) columns.Flags rows;
  sample_cts = column_if (is_set t.flags run_flags.FLAG_SAMPLE_CTS) columns.CompositionOffset rows;
}
