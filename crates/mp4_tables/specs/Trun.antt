-- trun, the track fragment run box (ISO/IEC 14496-12, 8.8.8). The fields are version 1 byte, flags 3, and
-- sample_count 4 at 12. Two optional fields start at 16, one after the other, each if its flag is set: data_offset 4,
-- signed (flag 0x01), and first_sample_flags 4 (0x04). A row for each sample follows: its duration 4 (0x100), size 4
-- (0x200), flags 4 (0x400) and composition time offset 4 (0x800), each if its flag is set.
use Rattle.std.specs.Prelude.{ℕ, ℤ, ◌+◌, ◌-◌, ◌*◌, List, [], ◌∷◌, ◌++◌, flat_map, slice_get, Option, Some, None}
use Rattle.std.specs.Prelude.{option_map, FitsSigned}
use Rattle.std.specs.List.{range_with_len}
use Rattle.std.specs.Int.{w32, cast_signed, cast_unsigned}
use Rattle.mp4_frame.specs.Bytes.{number, bytes_of_fields, FieldsFit, full_box}
use Rattle.mp4_frame.specs.Reading.{Reading, ◌>>=◌, expect_bytes, done}
use Rattle.mp4_tables.specs.Flagged.{is_set, width_if, number_if, optional, IsPresent}
use Rattle.mp4_tables.specs.TrunRows.{row_flags, row_length}
use Rattle.mp4_tables.specs.TrunLists.{reads_lists, IsListed}
use Rattle.mp4_tables.specs.declared.trun.TheConstants.TrunBox.{FLAG_DATA_OFFSET, FLAG_FIRST_SAMPLE_FLAGS}
use Rattle.mp4_tables.specs.declared.trun.TrunBox.{TrunBox}
use Rattle.mp4_frame.specs.Format.{Format}
use Rattle.mp4_frame.specs.declared.box_type.BoxType.TheVariants as names
use Rattle.mp4_frame.specs.declared.codes.TheConstants as codes
use Rattle.mp4_tables.specs.declared.trun.lists.TrunLists.{TrunLists}

-- the offsets of first_sample_flags and of the first row
abbrev pub first_flags_at : ℕ → ℕ
first_flags_at flags = 16 + width_if (is_set flags FLAG_DATA_OFFSET) 4

abbrev pub rows_at : ℕ → ℕ
rows_at flags = first_flags_at flags + width_if (is_set flags FLAG_FIRST_SAMPLE_FLAGS) 4

-- the signed number with the same 32 bits as an unsigned number, if there is one; then the reverse
abbrev pub signed_bits : Option ℕ → Option ℤ
signed_bits n = option_map (λ bits. cast_signed w32 bits) n

abbrev pub unsigned_bits : Option ℤ → Option ℕ
unsigned_bits n = option_map (λ z. cast_unsigned w32 z) n

-- the value for these flags and lists, where `at o w` is the number of w bytes at offset o
abbrev pub value_trun : ℕ → (ℕ → ℕ → ℕ) → TrunLists → TrunBox
value_trun flags at lists = record {
  version = at 8 1;
  flags = flags;
  sample_count = at 12 4;
  data_offset = signed_bits (number_if at (is_set flags FLAG_DATA_OFFSET) 16 4);
  first_sample_flags = number_if at (is_set flags FLAG_FIRST_SAMPLE_FLAGS) (first_flags_at flags) 4;
  sample_durations = lists.durations;
  sample_sizes = lists.sizes;
  sample_flags = lists.flags;
  sample_cts = lists.cts;
}

unfoldable pub reads_trun : List ℕ → ℕ → ℕ → Reading TrunBox
reads_trun bytes start size = do
  _ ← expect_bytes bytes 8 8
  _ ← expect_bytes bytes 16 (rows_at (number bytes 9 3) - 16)
  lists ← reads_lists bytes size (row_flags (number bytes 9 3)) (rows_at (number bytes 9 3)) (number bytes 12 4)
  done (value_trun (number bytes 9 3) (number bytes) lists)

abbrev pub size_trun : TrunBox → ℕ
size_trun v = rows_at v.flags + row_length (row_flags v.flags) * v.sample_count

abbrev pub fields_trun : TrunBox → List (ℕ × ℕ)
fields_trun v = full_box (size_trun v) codes.TRUN v.version v.flags ++ (4, v.sample_count) ∷ []

-- a signed number fits 32 bits, if there is one
abbrev pub FitsOptional : Option ℤ → Type 0
FitsOptional (Some z) = FitsSigned w32 z
FitsOptional None = Unit {0}

-- each list has sample_count entries if its flag is set, else none
pub record ListedTrun (v : TrunBox) : Type 0 where
  pub durations : IsListed (row_flags v.flags).duration v.sample_count v.sample_durations
  pub sizes : IsListed (row_flags v.flags).size v.sample_count v.sample_sizes
  pub flags : IsListed (row_flags v.flags).flags v.sample_count v.sample_flags
  pub cts : IsListed (row_flags v.flags).cts v.sample_count v.sample_cts

-- each optional field is present if and only if its flag is set, and its number fits
pub record FlaggedTrun (flags : ℕ) (offset : Option ℤ) (first_flags : Option ℕ) : Type 0 where
  pub data_offset : IsPresent (is_set flags FLAG_DATA_OFFSET) 4 (unsigned_bits offset)
  pub offset_fits : FitsOptional offset
  pub first_sample_flags : IsPresent (is_set flags FLAG_FIRST_SAMPLE_FLAGS) 4 first_flags

-- every number fits its field, and the optional fields and the lists agree with their flags
pub record WritableTrun (v : TrunBox) : Type 0 where
  pub fit : FieldsFit (fields_trun v)
  pub flagged : FlaggedTrun v.flags v.data_offset v.first_sample_flags
  pub listed : ListedTrun v

-- the row of the i-th sample
unfoldable pub row_trun : TrunBox → ℕ → List ℕ
row_trun v i =
    optional 4 (slice_get v.sample_durations i) ++ optional 4 (slice_get v.sample_sizes i)
    ++ optional 4 (slice_get v.sample_flags i)
    ++ optional 4 (slice_get v.sample_cts i)

-- the rows of the first n samples
abbrev pub rows_trun : TrunBox → ℕ → List ℕ
rows_trun v n = flat_map (row_trun v) (range_with_len 0 n)

unfoldable pub bytes_trun : TrunBox → List ℕ
bytes_trun v = bytes_of_fields (fields_trun v) ++ optional 4 (unsigned_bits v.data_offset)
    ++ optional 4 v.first_sample_flags ++ rows_trun v v.sample_count

abbrev pub format_trun : Format TrunBox
format_trun = record
    { name = λ _. names.TrunBox; size = size_trun; Writable = WritableTrun; bytes = bytes_trun; normal = λ v. v }
