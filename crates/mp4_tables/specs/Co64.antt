-- co64, the large chunk offset box (ISO/IEC 14496-12, 8.7.5). The fields are version 1 byte, flags 3, the number of
-- offsets 4 at 12, and the offsets, 8 bytes each, starting at 16.
use Rattle.std.specs.Prelude.{ℕ, ◌<◌, ◌^◌, List}
use Rattle.mp4_frame.specs.Bytes.{number, be_bytes}
use Rattle.mp4_frame.specs.Reading.{Reading}
use Rattle.mp4_frame.specs.Tables.{reads_table, size_table, WritableTable, bytes_table}
use Rattle.mp4_frame.specs.Format.{Format}
use Rattle.mp4_frame.specs.declared.box_type.BoxType.TheVariants as names
use Rattle.mp4_frame.specs.declared.codes.TheConstants as codes
use Rattle.mp4_tables.specs.declared.co64.Co64Box.{Co64Box}

-- the chunk offset in a row
abbrev pub offset_of : List ℕ → ℕ
offset_of entry = number entry 0 8

abbrev pub made_co64 : ℕ → ℕ → List ℕ → Co64Box
made_co64 version flags offsets = record { version = version; flags = flags; entries = offsets }

unfoldable pub reads_co64 : List ℕ → ℕ → ℕ → Reading Co64Box
reads_co64 bytes start size = reads_table made_co64 offset_of 8 bytes size

abbrev pub size_co64 : Co64Box → ℕ
size_co64 v = size_table 8 v.entries

abbrev pub WritableCo64 : Co64Box → Type 0
WritableCo64 v = WritableTable (λ offset. offset < 2 ^ 64) 8 codes.CO64 v.version v.flags v.entries

unfoldable pub bytes_co64 : Co64Box → List ℕ
bytes_co64 v = bytes_table (λ offset. be_bytes 8 offset) 8 codes.CO64 v.version v.flags v.entries

abbrev pub format_co64 : Format Co64Box
format_co64 = record
    { name = λ _. names.Co64Box; size = size_co64; Writable = WritableCo64; bytes = bytes_co64; normal = λ v. v }
