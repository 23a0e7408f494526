-- avcC, the AVC decoder configuration (ISO/IEC 14496-15, 5.3.3.1). Its fields, by offset and bytes:
-- - 8, 1 byte: the version
-- - 9, 1 byte each: the profile, the compatibility and the level
-- - 12, 1 byte: the length size minus one in the two low bits; the others are written as ones
-- - 13, 1 byte: the number of sequence sets in the five low bits; the others are written as ones
-- - 14: the sequence sets, and after them the number of picture sets in 1 byte, and the picture sets
use Rattle.std.specs.Prelude.{ℕ, ◌+◌, ◌%◌, ◌<◌, ◌^◌, List, [], ◌∷◌, ◌++◌, All, length, slice_index}
use Rattle.mp4_frame.specs.Bytes.{number, be_bytes, bytes_of_fields, FieldsFit}
use Rattle.mp4_frame.specs.Reading.{Reading, ◌>>=◌, expect_bytes, done}
use Rattle.mp4_frame.specs.Format.{Format}
use Rattle.mp4_frame.specs.declared.box_type.BoxType.TheVariants as names
use Rattle.mp4_frame.specs.declared.codes.TheConstants as codes
use Rattle.mp4_entries.specs.Sets.{sets, size_sets, IsSet, bytes_sets}
use Rattle.mp4_entries.specs.declared.avcc.AvcCBox.{AvcCBox}
use Rattle.mp4_entries.specs.declared.nal_unit.NalUnit.{NalUnit}

-- the value with two lists, where `at o w` is the number of w bytes at offset o
abbrev pub value_avcc : (ℕ → ℕ → ℕ) → List NalUnit → List NalUnit → AvcCBox
value_avcc at sequence picture = record {
  configuration_version = at 8 1;
  avc_profile_indication = at 9 1;
  profile_compatibility = at 10 1;
  avc_level_indication = at 11 1;
  length_size_minus_one = at 12 1 % 4;
  sequence_parameter_sets = sequence;
  picture_parameter_sets = picture;
}

unfoldable pub reads_avcc : List ℕ → ℕ → ℕ → Reading AvcCBox
reads_avcc bytes start size = do
  _ ← expect_bytes bytes 8 6
  sequence ← sets bytes (number bytes 13 1 % 32) 14
  _ ← expect_bytes bytes sequence.1 1
  picture ← sets bytes (number bytes sequence.1 1) (sequence.1 + 1)
  done (value_avcc (number bytes) sequence.0 picture.0)

abbrev pub size_avcc : AvcCBox → ℕ
size_avcc v = 15 + size_sets v.sequence_parameter_sets + size_sets v.picture_parameter_sets

abbrev pub fields_avcc : AvcCBox → List (ℕ × ℕ)
fields_avcc v =
    (4, size_avcc v) ∷ (4, codes.AVCC) ∷ (1, v.configuration_version) ∷ (1, v.avc_profile_indication)
    ∷ (1, v.profile_compatibility) ∷ (1, v.avc_level_indication) ∷ (1, 0xfc + v.length_size_minus_one % 4)
    ∷ (1, 0xe0 + length v.sequence_parameter_sets) ∷ []

-- Every number fits its field, so there are at most 31 sequence sets and 255 picture sets. Every length fits.
pub record WritableAvcc (v : AvcCBox) : Type 0 where
  pub fit : FieldsFit (fields_avcc v)
  pub count : length v.picture_parameter_sets < 2 ^ 8
  pub sequence : All IsSet v.sequence_parameter_sets
  pub picture : All IsSet v.picture_parameter_sets

-- the bytes of the two lists, with the count of the second between them
abbrev pub lists_avcc : List NalUnit → List NalUnit → List ℕ
lists_avcc sequence picture = bytes_sets sequence ++ (be_bytes 1 (length picture) ++ bytes_sets picture)

unfoldable pub bytes_avcc : AvcCBox → List ℕ
bytes_avcc v = bytes_of_fields (fields_avcc v) ++ lists_avcc v.sequence_parameter_sets v.picture_parameter_sets

-- the configuration made from one sequence set and one picture set
abbrev pub made_avcc : List ℕ → List ℕ → AvcCBox
made_avcc sps pps = record {
  configuration_version = 1;
  avc_profile_indication = slice_index sps 1;
  profile_compatibility = slice_index sps 2;
  avc_level_indication = slice_index sps 3;
  length_size_minus_one = 0xff;
  sequence_parameter_sets = record { bytes = sps } ∷ [];
  picture_parameter_sets = record { bytes = pps } ∷ [];
}

abbrev pub normal_avcc : AvcCBox → AvcCBox
normal_avcc v = record v { length_size_minus_one = v.length_size_minus_one % 4 }

abbrev pub format_avcc : Format AvcCBox
format_avcc = record
    { name = λ _. names.AvcCBox; size = size_avcc; Writable = WritableAvcc; bytes = bytes_avcc; normal = normal_avcc }
