-- smhd, the sound media header box (ISO/IEC 14496-12, 12.2.2). The fields are version 1 byte, flags 3, the signed
-- balance in 2 bytes at 12, and 2 bytes that are written as zero and may be missing when the box is read.
use Rattle.std.specs.Prelude.{ℕ, FitsSigned, List, [], ◌∷◌, ◌++◌}
use Rattle.std.specs.Int.{w16, cast_signed, cast_unsigned}
use Rattle.mp4_frame.specs.Bytes.{number, bytes_of_fields, FieldsFit, full_box}
use Rattle.mp4_frame.specs.Reading.{Reading, ◌>>=◌, expect_bytes, done}
use Rattle.mp4_frame.specs.Format.{Format}
use Rattle.mp4_frame.specs.declared.box_type.BoxType.TheVariants as names
use Rattle.mp4_frame.specs.declared.codes.TheConstants as codes
use Rattle.mp4_flat.specs.declared.smhd.SmhdBox.{SmhdBox}

-- the value, where `at o w` is the number of w bytes at offset o
abbrev pub value_smhd : (ℕ → ℕ → ℕ) → SmhdBox
value_smhd at = record { version = at 8 1; flags = at 9 3; balance = cast_signed w16 (at 12 2) }

unfoldable pub reads_smhd : List ℕ → ℕ → ℕ → Reading SmhdBox
reads_smhd bytes start size = do
  _ ← expect_bytes bytes 8 6
  done (value_smhd (number bytes))

abbrev pub size_smhd : SmhdBox → ℕ
size_smhd v = 16

abbrev pub fields_smhd : SmhdBox → List (ℕ × ℕ)
fields_smhd v = full_box 16 codes.SMHD v.version v.flags ++ (2, cast_unsigned w16 v.balance) ∷ (2, 0) ∷ []

abbrev pub WritableSmhd : SmhdBox → Type 0
WritableSmhd v = FieldsFit (fields_smhd v) × FitsSigned w16 v.balance

unfoldable pub bytes_smhd : SmhdBox → List ℕ
bytes_smhd v = bytes_of_fields (fields_smhd v)

abbrev pub format_smhd : Format SmhdBox
format_smhd = record
    { name = λ _. names.SmhdBox; size = size_smhd; Writable = WritableSmhd; bytes = bytes_smhd; normal = λ v. v }
