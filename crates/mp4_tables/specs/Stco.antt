-- stco, the chunk offset box (ISO/IEC 14496-12, 8.7.5). The fields are version 1 byte, flags 3, the number of offsets
-- 4 at 12, and the offsets, 4 bytes each, starting at 16.
use Rattle.std.specs.Prelude.{ℕ, ◌<◌, ◌^◌, List}
use Rattle.mp4_frame.specs.Bytes.{number, be_bytes}
use Rattle.mp4_frame.specs.Reading.{Reading}
use Rattle.mp4_frame.specs.Tables.{reads_table, size_table, WritableTable, bytes_table}
use Rattle.mp4_frame.specs.Format.{Format}
use Rattle.mp4_frame.specs.declared.box_type.BoxType.TheVariants as names
use Rattle.mp4_frame.specs.declared.codes.TheConstants as codes
use Rattle.mp4_tables.specs.declared.stco.StcoBox.{StcoBox}

-- the chunk offset in a row
abbrev pub offset_of : List ℕ → ℕ
offset_of entry = number entry 0 4

abbrev pub made_stco : ℕ → ℕ → List ℕ → StcoBox
made_stco version flags offsets = record { version = version; flags = flags; entries = offsets }

unfoldable pub reads_stco : List ℕ → ℕ → ℕ → Reading StcoBox
reads_stco bytes start size = reads_table made_stco offset_of 4 bytes size

abbrev pub size_stco : StcoBox → ℕ
size_stco v = size_table 4 v.entries

abbrev pub WritableStco : StcoBox → Type 0
WritableStco v = WritableTable (λ offset. offset < 2 ^ 32) 4 codes.STCO v.version v.flags v.entries

unfoldable pub bytes_stco : StcoBox → List ℕ
bytes_stco v = bytes_table (λ offset. be_bytes 4 offset) 4 codes.STCO v.version v.flags v.entries

abbrev pub format_stco : Format StcoBox
format_stco = record
    { name = λ _. names.StcoBox; size = size_stco; Writable = WritableStco; bytes = bytes_stco; normal = λ v. v }
