-- The rows of a trun box: the numbers of a row, which depend on the flags of the box, and their offsets in the row.
use Rattle.std.specs.Prelude.{ℕ, ◌+◌}
use Rattle.mp4_tables.specs.Flagged.{is_set, width_if}
use Rattle.mp4_tables.specs.declared.trun.TheConstants.TrunBox.{FLAG_SAMPLE_DURATION, FLAG_SAMPLE_SIZE}
use Rattle.mp4_tables.specs.declared.trun.TheConstants.TrunBox.{FLAG_SAMPLE_FLAGS, FLAG_SAMPLE_CTS}
use Rattle.mp4_tables.specs.declared.trun.row_flags.RowFlags.{RowFlags}

abbrev pub row_flags : ℕ → RowFlags
row_flags flags = record {
  duration = is_set flags FLAG_SAMPLE_DURATION;
  size = is_set flags FLAG_SAMPLE_SIZE;
  flags = is_set flags FLAG_SAMPLE_FLAGS;
  cts = is_set flags FLAG_SAMPLE_CTS;
}

-- the offsets in a row of the size, the flags and the composition time offset, and then the length of the row. The
-- duration is at offset 0, and each number follows the one before it
abbrev pub size_in_row : RowFlags → ℕ
size_in_row has = width_if has.duration 4

abbrev pub flags_in_row : RowFlags → ℕ
flags_in_row has = size_in_row has + width_if has.size 4

abbrev pub cts_in_row : RowFlags → ℕ
cts_in_row has = flags_in_row has + width_if has.flags 4

abbrev pub row_length : RowFlags → ℕ
row_length has = cts_in_row has + width_if has.cts 4
