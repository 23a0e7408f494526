-- dinf, the data information box (ISO/IEC 14496-12, 8.7.1). The boxes in it start at 8, and the last dref is kept.
use Rattle.std.specs.Prelude.{ℕ, ◌+◌, List, [], ◌∷◌, ◌++◌}
use Rattle.mp4_frame.specs.Bytes.{bytes_of_fields}
use Rattle.mp4_frame.specs.Children.{children}
use Rattle.mp4_frame.specs.FieldsThenChild.{WritableParent, required}
use Rattle.mp4_frame.specs.Reading.{Reading, ◌>>=◌, done}
use Rattle.mp4_text.specs.Dref.{reads_dref, format_dref}
use Rattle.mp4_text.specs.declared.dinf.DinfBox.{DinfBox}
use Rattle.mp4_text.specs.declared.dref.DrefBox.{DrefBox}
use Rattle.mp4_frame.specs.Format.{Format}
use Rattle.mp4_frame.specs.declared.box_type.BoxType.TheVariants as names
use Rattle.mp4_frame.specs.declared.codes.TheConstants as codes

-- the last dref among the boxes, which must be present. Each box begins before the end and has at least 8 bytes, so
-- that the size bounds their number
abbrev pub dref_among : List ℕ → ℕ → ℕ → Reading DrefBox
dref_among bytes start size = do
  found ← children reads_dref codes.DREF bytes start size size 8
  required names.DrefBox found

unfoldable pub reads_dinf : List ℕ → ℕ → ℕ → Reading DinfBox
reads_dinf bytes start size = do
  dref ← dref_among bytes start size
  done (record { dref = dref })

abbrev pub size_dinf : DinfBox → ℕ
size_dinf v = 8 + format_dref.size v.dref

abbrev pub fields_dinf : DinfBox → List (ℕ × ℕ)
fields_dinf v = (4, size_dinf v) ∷ (4, codes.DINF) ∷ []

-- the size fits its field, and the references can be written
abbrev pub WritableDinf : DinfBox → Type 0
WritableDinf v = WritableParent format_dref.Writable (fields_dinf v) v.dref

unfoldable pub bytes_dinf : DinfBox → List ℕ
bytes_dinf v = bytes_of_fields (fields_dinf v) ++ format_dref.bytes v.dref

abbrev pub normal_dinf : DinfBox → DinfBox
normal_dinf v = record { dref = format_dref.normal v.dref }

abbrev pub format_dinf : Format DinfBox
format_dinf = record
    { name = λ _. names.DinfBox; size = size_dinf; Writable = WritableDinf; bytes = bytes_dinf; normal = normal_dinf }
