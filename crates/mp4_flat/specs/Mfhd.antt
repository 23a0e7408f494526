-- mfhd, the movie fragment header box (ISO/IEC 14496-12, 8.8.5). The fields are version 1 byte, flags 3, and the
-- number of the fragment in 4 bytes at 12.
use Rattle.std.specs.Prelude.{ℕ, List, [], ◌∷◌, ◌++◌}
use Rattle.mp4_frame.specs.Bytes.{number, bytes_of_fields, FieldsFit, full_box}
use Rattle.mp4_frame.specs.Format.{Format}
use Rattle.mp4_frame.specs.Reading.{Reading, ◌>>=◌, expect_bytes, done}
use Rattle.mp4_frame.specs.declared.box_type.BoxType.TheVariants as names
use Rattle.mp4_frame.specs.declared.codes.TheConstants as codes
use Rattle.mp4_flat.specs.declared.mfhd.MfhdBox.{MfhdBox}

-- the value, where `at o w` is the number of w bytes at offset o
abbrev pub value_mfhd : (ℕ → ℕ → ℕ) → MfhdBox
value_mfhd at = record { version = at 8 1; flags = at 9 3; sequence_number = at 12 4 }

unfoldable pub reads_mfhd : List ℕ → ℕ → ℕ → Reading MfhdBox
reads_mfhd bytes start size = do
  _ ← expect_bytes bytes 8 8
  done (value_mfhd (number bytes))

abbrev pub size_mfhd : MfhdBox → ℕ
size_mfhd v = 16

abbrev pub fields_mfhd : MfhdBox → List (ℕ × ℕ)
fields_mfhd v = full_box 16 codes.MFHD v.version v.flags ++ (4, v.sequence_number) ∷ []

abbrev pub WritableMfhd : MfhdBox → Type 0
WritableMfhd v = FieldsFit (fields_mfhd v)

unfoldable pub bytes_mfhd : MfhdBox → List ℕ
bytes_mfhd v = bytes_of_fields (fields_mfhd v)

abbrev pub format_mfhd : Format MfhdBox
format_mfhd = record
    { name = λ _. names.MfhdBox; size = size_mfhd; Writable = WritableMfhd; bytes = bytes_mfhd; normal = λ v. v }
