-- data, the value of a metadata item (QuickTime's metadata, "Data atom"). The fields are the number of the data type
-- in 4 bytes at 8, 4 reserved bytes at 12, and the bytes of the value from 16 to the end.
use Rattle.std.specs.Prelude.{ℕ, ◌+◌, ◌-◌, nat_le, List, [], ◌∷◌, ◌++◌, length, Option, Some, None}
use Rattle.mp4_frame.specs.Bytes.{number, bytes_of_fields, FieldsFit}
use Rattle.mp4_frame.specs.Reading.{Reading, Invalid, ◌>>=◌, expect_bytes, check, piece_at, memory, done, faults}
use Rattle.mp4_media.specs.DataType.{data_type_of, number_data_type}
use Rattle.mp4_media.specs.declared.data_type.DataType.{DataType}
use Rattle.mp4_frame.specs.Format.{Format}
use Rattle.mp4_frame.specs.declared.box_type.BoxType.TheVariants as names
use Rattle.mp4_frame.specs.declared.codes.TheConstants as codes
use Rattle.mp4_text.specs.declared.data.DataBox.{DataBox}

-- the data type, or invalid data if the number has none
abbrev pub known_type : Option DataType → Reading DataType
known_type (Some data_type) = done data_type
known_type None = faults Invalid

unfoldable pub reads_data : List ℕ → ℕ → ℕ → Reading DataBox
reads_data bytes start size = do
  _ ← expect_bytes bytes 8 4
  data_type ← known_type (data_type_of (number bytes 8 4))
  _ ← expect_bytes bytes 12 4
  _ ← check (nat_le 16 size)
  data_bytes ← piece_at bytes 16 (size - 16)
  _ ← memory
  done (record { data_bytes = data_bytes; data_type = data_type })

abbrev pub size_data : DataBox → ℕ
size_data v = 16 + length v.data_bytes

abbrev pub fields_data : DataBox → List (ℕ × ℕ)
fields_data v = (4, size_data v) ∷ (4, codes.DATA) ∷ (4, number_data_type v.data_type) ∷ (4, 0) ∷ []

-- every number fits its field
abbrev pub WritableData : DataBox → Type 0
WritableData v = FieldsFit (fields_data v)

unfoldable pub bytes_data : DataBox → List ℕ
bytes_data v = bytes_of_fields (fields_data v) ++ v.data_bytes

abbrev pub format_data : Format DataBox
format_data = record
    { name = λ _. names.DataBox; size = size_data; Writable = WritableData; bytes = bytes_data; normal = λ v. v }
