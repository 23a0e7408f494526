-- The rows of tables for C, the struct for the other fields of each table, and the tables that are built from these.
-- The number of entries is that of the rows; the count in the struct has no effect.
use Rattle.std.specs.Prelude.{ℕ, List, length, map}
use Rattle.mp4_tables.specs.declared.stco.StcoBox.{StcoBox}
use Rattle.mp4_tables.specs.declared.co64.Co64Box.{Co64Box}
use Rattle.mp4_tables.specs.declared.stss.StssBox.{StssBox}
use Rattle.mp4_tables.specs.declared.stsz.StszBox.{StszBox}
use Rattle.mp4_tables.specs.declared.stts.SttsBox.{SttsBox}
use Rattle.mp4_tables.specs.declared.stts_entry.SttsEntry.{SttsEntry}
use Rattle.mp4_tables.specs.declared.ctts.CttsBox.{CttsBox}
use Rattle.mp4_tables.specs.declared.ctts_entry.CttsEntry.{CttsEntry}
use Rattle.mp4_tables.specs.declared.stsc.StscBox.{StscBox}
use Rattle.mp4_tables.specs.declared.stsc_entry.StscEntry.{StscEntry}
use Rattle.mp4_tables.specs.declared.elst.ElstBox.{ElstBox}
use Rattle.mp4_tables.specs.declared.elst_entry.ElstEntry.{ElstEntry}
use Rattle.mp4_c_boxes.specs.declared.tables.Table.{Table}
use Rattle.mp4_c_boxes.specs.declared.tables.StszTable.{StszTable}
use Rattle.mp4_c_boxes.specs.declared.tables.SttsRow.{SttsRow}
use Rattle.mp4_c_boxes.specs.declared.tables.CttsRow.{CttsRow}
use Rattle.mp4_c_boxes.specs.declared.tables.StscRow.{StscRow}
use Rattle.mp4_c_boxes.specs.declared.tables.ElstRow.{ElstRow}

-- the header of a table with this version, these flags and the number of these rows
abbrev pub table_of : {R : Type 0} → ℕ → ℕ → List R → Table
table_of version flags rows = record { count = length rows; flags = flags; version = version }

abbrev pub table_stco : StcoBox → Table
table_stco v = table_of v.version v.flags v.entries

abbrev pub table_co64 : Co64Box → Table
table_co64 v = table_of v.version v.flags v.entries

abbrev pub table_stss : StssBox → Table
table_stss v = table_of v.version v.flags v.entries

abbrev pub table_stsz : StszBox → StszTable
table_stsz v = record {
  count = length v.sample_sizes;
  flags = v.flags;
  sample_size = v.sample_size;
  sample_count = v.sample_count;
  version = v.version;
}

abbrev pub row_stts : SttsEntry → SttsRow
row_stts e = record { sample_count = e.sample_count; sample_delta = e.sample_delta }

abbrev pub table_stts : SttsBox → Table
table_stts v = table_of v.version v.flags v.entries

abbrev pub row_ctts : CttsEntry → CttsRow
row_ctts e = record { sample_count = e.sample_count; sample_offset = e.sample_offset }

abbrev pub table_ctts : CttsBox → Table
table_ctts v = table_of v.version v.flags v.entries

abbrev pub row_stsc : StscEntry → StscRow
row_stsc e = record {
  first_chunk = e.first_chunk;
  samples_per_chunk = e.samples_per_chunk;
  sample_description_index = e.sample_description_index;
  first_sample = e.first_sample;
}

abbrev pub table_stsc : StscBox → Table
table_stsc v = table_of v.version v.flags v.entries

abbrev pub row_elst : ElstEntry → ElstRow
row_elst e = record {
  segment_duration = e.segment_duration;
  media_time = e.media_time;
  media_rate = e.media_rate;
  media_rate_fraction = e.media_rate_fraction;
}

abbrev pub table_elst : ElstBox → Table
table_elst v = table_of v.version v.flags v.entries

abbrev pub stco_of : Table → List ℕ → StcoBox
stco_of t rows = record { version = t.version; flags = t.flags; entries = rows }

abbrev pub co64_of : Table → List ℕ → Co64Box
co64_of t rows = record { version = t.version; flags = t.flags; entries = rows }

abbrev pub stss_of : Table → List ℕ → StssBox
stss_of t rows = record { version = t.version; flags = t.flags; entries = rows }

abbrev pub stsz_of : StszTable → List ℕ → StszBox
stsz_of t rows = record {
  version = t.version;
  flags = t.flags;
  sample_size = t.sample_size;
  sample_count = t.sample_count;
  sample_sizes = rows;
}

abbrev pub entry_stts : SttsRow → SttsEntry
entry_stts r = record { sample_count = r.sample_count; sample_delta = r.sample_delta }

abbrev pub stts_of : Table → List SttsRow → SttsBox
stts_of t rows = record { version = t.version; flags = t.flags; entries = map entry_stts rows }

abbrev pub entry_ctts : CttsRow → CttsEntry
entry_ctts r = record { sample_count = r.sample_count; sample_offset = r.sample_offset }

abbrev pub ctts_of : Table → List CttsRow → CttsBox
ctts_of t rows = record { version = t.version; flags = t.flags; entries = map entry_ctts rows }

abbrev pub entry_stsc : StscRow → StscEntry
entry_stsc r = record {
  first_chunk = r.first_chunk;
  samples_per_chunk = r.samples_per_chunk;
  sample_description_index = r.sample_description_index;
  first_sample = r.first_sample;
}

abbrev pub stsc_of : Table → List StscRow → StscBox
stsc_of t rows = record { version = t.version; flags = t.flags; entries = map entry_stsc rows }

abbrev pub entry_elst : ElstRow → ElstEntry
entry_elst r = record {
  segment_duration = r.segment_duration;
  media_time = r.media_time;
  media_rate = r.media_rate;
  media_rate_fraction = r.media_rate_fraction;
}

abbrev pub elst_of : Table → List ElstRow → ElstBox
elst_of t rows = record { version = t.version; flags = t.flags; entries = map entry_elst rows }
