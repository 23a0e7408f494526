-- stss, the sync sample box (ISO/IEC 14496-12, 8.6.2). The fields are version 1 byte, flags 3, the number of sync
-- samples 4 at 12, and their sample numbers, 4 bytes each, starting at 16.
use Rattle.std.specs.Prelude.{ℕ, ◌<◌, ◌^◌, List}
use Rattle.mp4_frame.specs.Bytes.{number, be_bytes}
use Rattle.mp4_frame.specs.Reading.{Reading}
use Rattle.mp4_frame.specs.Tables.{reads_table, size_table, WritableTable, bytes_table}
use Rattle.mp4_frame.specs.Format.{Format}
use Rattle.mp4_frame.specs.declared.box_type.BoxType.TheVariants as names
use Rattle.mp4_frame.specs.declared.codes.TheConstants as codes
use Rattle.mp4_tables.specs.declared.stss.StssBox.{StssBox}

-- the sample number in a row
abbrev pub sample_of : List ℕ → ℕ
sample_of entry = number entry 0 4

abbrev pub made_stss : ℕ → ℕ → List ℕ → StssBox
made_stss version flags samples = record { version = version; flags = flags; entries = samples }

unfoldable pub reads_stss : List ℕ → ℕ → ℕ → Reading StssBox
reads_stss bytes start size = reads_table made_stss sample_of 4 bytes size

abbrev pub size_stss : StssBox → ℕ
size_stss v = size_table 4 v.entries

abbrev pub WritableStss : StssBox → Type 0
WritableStss v = WritableTable (λ sample. sample < 2 ^ 32) 4 codes.STSS v.version v.flags v.entries

unfoldable pub bytes_stss : StssBox → List ℕ
bytes_stss v = bytes_table (λ sample. be_bytes 4 sample) 4 codes.STSS v.version v.flags v.entries

abbrev pub format_stss : Format StssBox
format_stss = record
    { name = λ _. names.StssBox; size = size_stss; Writable = WritableStss; bytes = bytes_stss; normal = λ v. v }
