-- trex, the track extends box (ISO/IEC 14496-12, 8.8.3). The fields are version 1 byte, flags 3, the number of the
-- track in 4 bytes at 12, and the defaults of a sample in 4 bytes each: description index at 16, duration at 20,
-- size at 24, flags at 28.
use Rattle.std.specs.Prelude.{ℕ, List, [], ◌∷◌, ◌++◌}
use Rattle.mp4_frame.specs.Bytes.{number, bytes_of_fields, FieldsFit, full_box}
use Rattle.mp4_frame.specs.Reading.{Reading, ◌>>=◌, expect_bytes, done}
use Rattle.mp4_frame.specs.Format.{Format}
use Rattle.mp4_frame.specs.declared.box_type.BoxType.TheVariants as names
use Rattle.mp4_frame.specs.declared.codes.TheConstants as codes
use Rattle.mp4_flat.specs.declared.trex.TrexBox.{TrexBox}

-- the value, where `at o w` is the number of w bytes at offset o
abbrev pub value_trex : (ℕ → ℕ → ℕ) → TrexBox
value_trex at = record {
  version = at 8 1;
  flags = at 9 3;
  track_id = at 12 4;
  default_sample_description_index = at 16 4;
  default_sample_duration = at 20 4;
  default_sample_size = at 24 4;
  default_sample_flags = at 28 4;
}

unfoldable pub reads_trex : List ℕ → ℕ → ℕ → Reading TrexBox
reads_trex bytes start size = do
  _ ← expect_bytes bytes 8 24
  done (value_trex (number bytes))

abbrev pub size_trex : TrexBox → ℕ
size_trex v = 32

abbrev pub fields_trex : TrexBox → List (ℕ × ℕ)
fields_trex v = full_box 32 codes.TREX v.version v.flags ++ (4, v.track_id) ∷ (4, v.default_sample_description_index)
    ∷ (4, v.default_sample_duration) ∷ (4, v.default_sample_size) ∷ (4, v.default_sample_flags) ∷ []

abbrev pub WritableTrex : TrexBox → Type 0
WritableTrex v = FieldsFit (fields_trex v)

unfoldable pub bytes_trex : TrexBox → List ℕ
bytes_trex v = bytes_of_fields (fields_trex v)

abbrev pub format_trex : Format TrexBox
format_trex = record
    { name = λ _. names.TrexBox; size = size_trex; Writable = WritableTrex; bytes = bytes_trex; normal = λ v. v }
