-- stts, the decoding time to sample box (ISO/IEC 14496-12, 8.6.1.2). The fields are version 1 byte, flags 3, the
-- number of entries 4 at 12, and the entries, 8 bytes each, starting at 16.
use Rattle.std.specs.Prelude.{ℕ, List}
use Rattle.mp4_frame.specs.Reading.{Reading}
use Rattle.mp4_frame.specs.Tables.{reads_table, size_table, WritableTable, bytes_table}
use Rattle.mp4_tables.specs.SttsEntry.{entry_stts, row_stts, FitsSttsEntry}
use Rattle.mp4_tables.specs.declared.stts.SttsBox.{SttsBox}
use Rattle.mp4_frame.specs.Format.{Format}
use Rattle.mp4_frame.specs.declared.box_type.BoxType.TheVariants as names
use Rattle.mp4_frame.specs.declared.codes.TheConstants as codes
use Rattle.mp4_tables.specs.declared.stts_entry.SttsEntry.{SttsEntry}

abbrev pub made_stts : ℕ → ℕ → List SttsEntry → SttsBox
made_stts version flags entries = record { version = version; flags = flags; entries = entries }

unfoldable pub reads_stts : List ℕ → ℕ → ℕ → Reading SttsBox
reads_stts bytes start size = reads_table made_stts entry_stts 8 bytes size

abbrev pub size_stts : SttsBox → ℕ
size_stts v = size_table 8 v.entries

abbrev pub WritableStts : SttsBox → Type 0
WritableStts v = WritableTable FitsSttsEntry 8 codes.STTS v.version v.flags v.entries

unfoldable pub bytes_stts : SttsBox → List ℕ
bytes_stts v = bytes_table row_stts 8 codes.STTS v.version v.flags v.entries

abbrev pub format_stts : Format SttsBox
format_stts = record
    { name = λ _. names.SttsBox; size = size_stts; Writable = WritableStts; bytes = bytes_stts; normal = λ v. v }
