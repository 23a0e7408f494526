-- hvcC, the HEVC decoder configuration (ISO/IEC 14496-15, 8.3.3.1), of which only the first byte is kept: the
-- configuration version at offset 8
use Rattle.std.specs.Prelude.{ℕ, List, [], ◌∷◌}
use Rattle.mp4_frame.specs.Bytes.{number, bytes_of_fields, FieldsFit}
use Rattle.mp4_frame.specs.Reading.{Reading, ◌>>=◌, expect_bytes, done}
use Rattle.mp4_frame.specs.Format.{Format}
use Rattle.mp4_frame.specs.declared.box_type.BoxType.TheVariants as names
use Rattle.mp4_frame.specs.declared.codes.TheConstants as codes
use Rattle.mp4_entries.specs.declared.hvcc.HvcCBox.{HvcCBox}

-- the value, where `at o w` is the number of w bytes at offset o
abbrev pub value_hvcc : (ℕ → ℕ → ℕ) → HvcCBox
value_hvcc at = record { configuration_version = at 8 1 }

unfoldable pub reads_hvcc : List ℕ → ℕ → ℕ → Reading HvcCBox
reads_hvcc bytes start size = do
  _ ← expect_bytes bytes 8 1
  done (value_hvcc (number bytes))

abbrev pub size_hvcc : HvcCBox → ℕ
size_hvcc v = 9

abbrev pub fields_hvcc : HvcCBox → List (ℕ × ℕ)
fields_hvcc v = (4, 9) ∷ (4, codes.HVCC) ∷ (1, v.configuration_version) ∷ []

abbrev pub WritableHvcc : HvcCBox → Type 0
WritableHvcc v = FieldsFit (fields_hvcc v)

unfoldable pub bytes_hvcc : HvcCBox → List ℕ
bytes_hvcc v = bytes_of_fields (fields_hvcc v)

abbrev pub format_hvcc : Format HvcCBox
format_hvcc = record
    { name = λ _. names.HvcCBox; size = size_hvcc; Writable = WritableHvcc; bytes = bytes_hvcc; normal = λ v. v }
