-- ctts, the composition time to sample box (ISO/IEC 14496-12, 8.6.1.3). The fields are version 1 byte, flags 3, the
-- number of entries 4 at 12, and the entries, 8 bytes each, starting at 16.
use Rattle.std.specs.Prelude.{ℕ, List}
use Rattle.mp4_frame.specs.Reading.{Reading}
use Rattle.mp4_frame.specs.Tables.{reads_table, size_table, WritableTable, bytes_table}
use Rattle.mp4_tables.specs.CttsEntry.{entry_ctts, row_ctts, FitsCttsEntry}
use Rattle.mp4_tables.specs.declared.ctts.CttsBox.{CttsBox}
use Rattle.mp4_frame.specs.Format.{Format}
use Rattle.mp4_frame.specs.declared.box_type.BoxType.TheVariants as names
use Rattle.mp4_frame.specs.declared.codes.TheConstants as codes
use Rattle.mp4_tables.specs.declared.ctts_entry.CttsEntry.{CttsEntry}

abbrev pub made_ctts : ℕ → ℕ → List CttsEntry → CttsBox
made_ctts version flags entries = record { version = version; flags = flags; entries = entries }

unfoldable pub reads_ctts : List ℕ → ℕ → ℕ → Reading CttsBox
reads_ctts bytes start size = reads_table made_ctts entry_ctts 8 bytes size

abbrev pub size_ctts : CttsBox → ℕ
size_ctts v = size_table 8 v.entries

abbrev pub WritableCtts : CttsBox → Type 0
WritableCtts v = WritableTable FitsCttsEntry 8 codes.CTTS v.version v.flags v.entries

unfoldable pub bytes_ctts : CttsBox → List ℕ
bytes_ctts v = bytes_table row_ctts 8 codes.CTTS v.version v.flags v.entries

abbrev pub format_ctts : Format CttsBox
format_ctts = record
    { name = λ _. names.CttsBox; size = size_ctts; Writable = WritableCtts; bytes = bytes_ctts; normal = λ v. v }
