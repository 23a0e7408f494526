-- ftyp, the file type box (ISO/IEC 14496-12, 4.3). Its size is at least 16 and a multiple of 4. The fields are a
-- major brand of 4 bytes at 8, a minor version of 4 at 12, and brands of 4 bytes each from 16 to the end.
use Rattle.std.specs.Prelude.{ℕ, ◌+◌, ◌-◌, ◌*◌, ◌/◌, ◌%◌, ◌==◌, ◌&&◌, nat_le, List, [], ◌∷◌, ◌++◌, All, length, map}
use Rattle.std.specs.Prelude.{flat_map}
use Rattle.mp4_frame.specs.Bytes.{number, bytes_of_fields, FieldsFit}
use Rattle.mp4_frame.specs.FourCC.{four_cc_of, number_of, IsFourCC}
use Rattle.mp4_frame.specs.Reading.{Reading, ◌>>=◌, check, expect_bytes, memory, done}
use Rattle.mp4_frame.specs.Tables.{rows_at}
use Rattle.mp4_frame.specs.declared.four_cc.FourCC.{FourCC}
use Rattle.mp4_frame.specs.Format.{Format}
use Rattle.mp4_frame.specs.declared.box_type.BoxType.TheVariants as names
use Rattle.mp4_frame.specs.declared.codes.TheConstants as codes
use Rattle.mp4_text.specs.declared.ftyp.FtypBox.{FtypBox}

-- the brand in a row
abbrev pub brand_of : List ℕ → FourCC
brand_of row = record { value = row }

-- the value with these brands, where `at o w` is the number of w bytes at offset o
abbrev pub value_ftyp : (ℕ → ℕ → ℕ) → List FourCC → FtypBox
value_ftyp at brands = record { major_brand = four_cc_of (at 8 4); minor_version = at 12 4; compatible_brands = brands }

unfoldable pub reads_ftyp : List ℕ → ℕ → ℕ → Reading FtypBox
reads_ftyp bytes start size = do
  _ ← check (nat_le 16 size && (size % 4 == 0))
  _ ← expect_bytes bytes 8 8
  rows ← rows_at bytes 16 4 ((size - 16) / 4)
  _ ← memory
  done (value_ftyp (number bytes) (map brand_of rows))

abbrev pub size_ftyp : FtypBox → ℕ
size_ftyp v = 16 + 4 * length v.compatible_brands

abbrev pub fields_ftyp : FtypBox → List (ℕ × ℕ)
fields_ftyp v = (4, size_ftyp v) ∷ (4, codes.FTYP) ∷ (4, number_of v.major_brand) ∷ (4, v.minor_version) ∷ []

-- every number fits its field, and every brand has four bytes
pub record WritableFtyp (v : FtypBox) : Type 0 where
  pub fit : FieldsFit (fields_ftyp v)
  pub major : IsFourCC v.major_brand
  pub each : All IsFourCC v.compatible_brands

unfoldable pub bytes_ftyp : FtypBox → List ℕ
bytes_ftyp v = bytes_of_fields (fields_ftyp v) ++ flat_map (λ brand. brand.value) v.compatible_brands

abbrev pub format_ftyp : Format FtypBox
format_ftyp = record
    { name = λ _. names.FtypBox; size = size_ftyp; Writable = WritableFtyp; bytes = bytes_ftyp; normal = λ v. v }
