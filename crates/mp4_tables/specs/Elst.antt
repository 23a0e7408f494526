-- elst, the edit list box (ISO/IEC 14496-12, 8.6.6). The fields are version 1 byte, flags 3, the number of entries 4 at
-- 12, and the entries, starting at 16. An entry has 20 bytes in version 1, and 12 in every other version.
use Rattle.std.specs.Prelude.{ℕ, Bool, List}
use Rattle.mp4_frame.specs.Bytes.{number}
use Rattle.mp4_frame.specs.Reading.{Reading}
use Rattle.mp4_frame.specs.Tables.{reads_table, size_table, WritableTable, bytes_table}
use Rattle.mp4_tables.specs.ElstEntry.{is_long, row_length, entry_elst, row_elst, FitsElstEntry}
use Rattle.mp4_tables.specs.declared.elst.ElstBox.{ElstBox}
use Rattle.mp4_frame.specs.Format.{Format}
use Rattle.mp4_frame.specs.declared.box_type.BoxType.TheVariants as names
use Rattle.mp4_frame.specs.declared.codes.TheConstants as codes
use Rattle.mp4_tables.specs.declared.elst_entry.ElstEntry.{ElstEntry}

abbrev pub made_elst : ℕ → ℕ → List ElstEntry → ElstBox
made_elst version flags entries = record { version = version; flags = flags; entries = entries }

-- the reading of a table whose rows are all long, or all short
unfoldable pub reads_elst_rows : Bool → List ℕ → ℕ → Reading ElstBox
reads_elst_rows long bytes size = reads_table made_elst (entry_elst long) (row_length long) bytes size

unfoldable pub reads_elst : List ℕ → ℕ → ℕ → Reading ElstBox
reads_elst bytes start size = reads_elst_rows (is_long (number bytes 8 1)) bytes size

abbrev pub size_elst : ElstBox → ℕ
size_elst v = size_table (row_length (is_long v.version)) v.entries

-- every number fits its field, whose width in long rows is not that in short ones
abbrev pub WritableElstRows : Bool → ElstBox → Type 0
WritableElstRows long v = WritableTable (FitsElstEntry long) (row_length long) codes.ELST v.version v.flags v.entries

abbrev pub WritableElst : ElstBox → Type 0
WritableElst v = WritableElstRows (is_long v.version) v

unfoldable pub bytes_elst_rows : Bool → ElstBox → List ℕ
bytes_elst_rows long v = bytes_table (row_elst long) (row_length long) codes.ELST v.version v.flags v.entries

unfoldable pub bytes_elst : ElstBox → List ℕ
bytes_elst v = bytes_elst_rows (is_long v.version) v

abbrev pub format_elst : Format ElstBox
format_elst = record
    { name = λ _. names.ElstBox; size = size_elst; Writable = WritableElst; bytes = bytes_elst; normal = λ v. v }
