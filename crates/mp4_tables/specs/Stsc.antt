-- stsc, the sample to chunk box (ISO/IEC 14496-12, 8.7.4). The fields are version 1 byte, flags 3, the number of
-- entries 4 at 12, and the entries, 12 bytes each, starting at 16. The first samples of the entries are computed.
use Rattle.std.specs.Prelude.{ℕ, List, IsTrue, map}
use Rattle.mp4_frame.specs.Reading.{Reading, ◌>>=◌, memory, check, done}
use Rattle.mp4_frame.specs.Tables.{counted_rows, size_table, WritableTable, bytes_table}
use Rattle.mp4_tables.specs.Chunks.{chunks_fit, number_samples}
use Rattle.mp4_tables.specs.StscEntry.{entry_stsc, row_stsc, FitsStscEntry}
use Rattle.mp4_frame.specs.Format.{Format}
use Rattle.mp4_frame.specs.declared.box_type.BoxType.TheVariants as names
use Rattle.mp4_frame.specs.declared.codes.TheConstants as codes
use Rattle.mp4_tables.specs.declared.stsc_entry.StscEntry.{StscEntry}
use Rattle.mp4_tables.specs.declared.stsc.StscBox.{StscBox}

-- the entries in these rows with their first samples, which are computed once memory for all entries was taken
abbrev pub numbered_entries : List (List ℕ) → Reading (List StscEntry)
numbered_entries rows = do
  _ ← memory
  _ ← check (chunks_fit (map entry_stsc rows))
  done (number_samples (map entry_stsc rows))

unfoldable pub reads_stsc : List ℕ → ℕ → ℕ → Reading StscBox
reads_stsc bytes start size = do
  t ← counted_rows bytes size 12
  entries ← numbered_entries t.rows
  done (record { version = t.version; flags = t.flags; entries = entries })

abbrev pub size_stsc : StscBox → ℕ
size_stsc v = size_table 12 v.entries

-- every number fits its field, and the first samples can be computed
pub record WritableStsc (v : StscBox) : Type 0 where
  pub table : WritableTable FitsStscEntry 12 codes.STSC v.version v.flags v.entries
  pub chunks : IsTrue (chunks_fit v.entries)

unfoldable pub bytes_stsc : StscBox → List ℕ
bytes_stsc v = bytes_table row_stsc 12 codes.STSC v.version v.flags v.entries

-- the same box, with the computed first samples
abbrev pub normal_stsc : StscBox → StscBox
normal_stsc v = record v { entries = number_samples v.entries }

abbrev pub format_stsc : Format StscBox
format_stsc = record
    { name = λ _. names.StscBox; size = size_stsc; Writable = WritableStsc; bytes = bytes_stsc; normal = normal_stsc }
