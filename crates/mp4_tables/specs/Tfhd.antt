-- tfhd, the track fragment header box (ISO/IEC 14496-12, 8.8.7). The fields are version 1 byte, flags 3, and
-- track_id 4 at 12. The optional fields start at 16, one after the other, each if its flag is set:
-- base_data_offset 8 (flag 0x01), sample_description_index 4 (0x02), default_sample_duration 4 (0x08),
-- default_sample_size 4 (0x10), default_sample_flags 4 (0x20).
use Rattle.std.specs.Prelude.{ℕ, ◌+◌, ◌-◌, List, [], ◌∷◌, ◌++◌}
use Rattle.mp4_frame.specs.Bytes.{number, bytes_of_fields, FieldsFit, full_box}
use Rattle.mp4_frame.specs.Reading.{Reading, ◌>>=◌, expect_bytes, done}
use Rattle.mp4_tables.specs.Flagged.{is_set, width_if, number_if, optional, IsPresent}
use Rattle.mp4_tables.specs.declared.tfhd.TheConstants.TfhdBox.{FLAG_BASE_DATA_OFFSET, FLAG_SAMPLE_DESCRIPTION_INDEX}
use Rattle.mp4_tables.specs.declared.tfhd.TheConstants.TfhdBox.{FLAG_DEFAULT_SAMPLE_DURATION, FLAG_DEFAULT_SAMPLE_SIZE}
use Rattle.mp4_tables.specs.declared.tfhd.TheConstants.TfhdBox.{FLAG_DEFAULT_SAMPLE_FLAGS}
use Rattle.mp4_frame.specs.Format.{Format}
use Rattle.mp4_frame.specs.declared.box_type.BoxType.TheVariants as names
use Rattle.mp4_frame.specs.declared.codes.TheConstants as codes
use Rattle.mp4_tables.specs.declared.tfhd.TfhdBox.{TfhdBox}

-- the offsets of the optional fields after base_data_offset, and the offset after the last one
abbrev pub index_at : ℕ → ℕ
index_at flags = 16 + width_if (is_set flags FLAG_BASE_DATA_OFFSET) 8

abbrev pub duration_at : ℕ → ℕ
duration_at flags = index_at flags + width_if (is_set flags FLAG_SAMPLE_DESCRIPTION_INDEX) 4

abbrev pub size_at : ℕ → ℕ
size_at flags = duration_at flags + width_if (is_set flags FLAG_DEFAULT_SAMPLE_DURATION) 4

abbrev pub flags_at : ℕ → ℕ
flags_at flags = size_at flags + width_if (is_set flags FLAG_DEFAULT_SAMPLE_SIZE) 4

abbrev pub end_at : ℕ → ℕ
end_at flags = flags_at flags + width_if (is_set flags FLAG_DEFAULT_SAMPLE_FLAGS) 4

-- the value for these flags, where `at o w` is the number of w bytes at offset o
abbrev pub value_tfhd : ℕ → (ℕ → ℕ → ℕ) → TfhdBox
value_tfhd flags at = record {
  version = at 8 1;
  flags = flags;
  track_id = at 12 4;
  base_data_offset = number_if at (is_set flags FLAG_BASE_DATA_OFFSET) 16 8;
  sample_description_index = number_if at (is_set flags FLAG_SAMPLE_DESCRIPTION_INDEX) (index_at flags) 4;
  default_sample_duration = number_if at (is_set flags FLAG_DEFAULT_SAMPLE_DURATION) (duration_at flags) 4;
  default_sample_size = number_if at (is_set flags FLAG_DEFAULT_SAMPLE_SIZE) (size_at flags) 4;
  default_sample_flags = number_if at (is_set flags FLAG_DEFAULT_SAMPLE_FLAGS) (flags_at flags) 4;
}

unfoldable pub reads_tfhd : List ℕ → ℕ → ℕ → Reading TfhdBox
reads_tfhd bytes start size = do
  _ ← expect_bytes bytes 8 8
  _ ← expect_bytes bytes 16 (end_at (number bytes 9 3) - 16)
  done (value_tfhd (number bytes 9 3) (number bytes))

abbrev pub size_tfhd : TfhdBox → ℕ
size_tfhd v = end_at v.flags

abbrev pub fields_tfhd : TfhdBox → List (ℕ × ℕ)
fields_tfhd v = full_box (size_tfhd v) codes.TFHD v.version v.flags ++ (4, v.track_id) ∷ []

-- each optional field is present if and only if its flag is set, and its number fits
pub record FlaggedTfhd (v : TfhdBox) : Type 0 where
  pub base_data_offset : IsPresent (is_set v.flags FLAG_BASE_DATA_OFFSET) 8 v.base_data_offset
  pub sample_description_index : IsPresent (is_set v.flags FLAG_SAMPLE_DESCRIPTION_INDEX) 4 v.sample_description_index
  pub default_sample_duration : IsPresent (is_set v.flags FLAG_DEFAULT_SAMPLE_DURATION) 4 v.default_sample_duration
  pub default_sample_size : IsPresent (is_set v.flags FLAG_DEFAULT_SAMPLE_SIZE) 4 v.default_sample_size
  pub default_sample_flags : IsPresent (is_set v.flags FLAG_DEFAULT_SAMPLE_FLAGS) 4 v.default_sample_flags

-- every number fits its field, and each optional field agrees with its flag
pub record WritableTfhd (v : TfhdBox) : Type 0 where
  pub fit : FieldsFit (fields_tfhd v)
  pub flagged : FlaggedTfhd v

unfoldable pub bytes_tfhd : TfhdBox → List ℕ
bytes_tfhd v =
    bytes_of_fields (fields_tfhd v) ++ optional 8 v.base_data_offset ++ optional 4 v.sample_description_index
    ++ optional 4 v.default_sample_duration ++ optional 4 v.default_sample_size ++ optional 4 v.default_sample_flags

abbrev pub format_tfhd : Format TfhdBox
format_tfhd = record
    { name = λ _. names.TfhdBox; size = size_tfhd; Writable = WritableTfhd; bytes = bytes_tfhd; normal = λ v. v }
