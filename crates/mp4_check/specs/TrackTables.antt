-- The chunks of a track, by its sample tables (ISO/IEC 14496-12, 8.7.3 to 8.7.5).
use Rattle.std.specs.Prelude.{ℕ, ◌+◌, ◌^◌, ◌==◌, ◌&&◌, ◌||◌, Bool, true, false, nat_lt, nat_le, List, []}
use Rattle.std.specs.Prelude.{is_some, length, map, Result, Ok, Err, None, Some, if◌then◌else◌}
use Rattle.std.specs.List.{list_all}
use Rattle.std.specs.declared.option.Option.{Option}
use Rattle.mp4_check.specs.declared.tables.ChunkTable.{ChunkTable}
use Rattle.mp4_check.specs.declared.tables.TrackChunks.{TrackChunks}
use Rattle.mp4_frame.specs.FourCC.{four_cc_of}
use Rattle.mp4_frame.specs.declared.codes.TheConstants as codes
use Rattle.mp4_movie.specs.Ends.{end_of}
use Rattle.mp4_movie.specs.Levels.{Found, after_of, first_in}
use Rattle.mp4_movie.specs.Problems.{Problem}
use Rattle.mp4_movie.specs.Tables.{chunks_of, table, tables_in}
use Rattle.mp4_movie.specs.declared.sample_boxes.ChunkBox.{ChunkBox}
use Rattle.mp4_movie.specs.declared.sample_boxes.ChunkBox.TheVariants as boxes
use Rattle.mp4_movie.specs.declared.sample_boxes.SampleBoxes.{SampleBoxes}
use Rattle.mp4_samples.specs.ChunkExtents.{chunk_at}
use Rattle.mp4_samples.specs.Chunks.{chunks_increase, samples_through}
use Rattle.mp4_samples.specs.Runs.{durations, increases}
use Rattle.mp4_samples.specs.Samples.{begins_at_one}
use Rattle.mp4_samples.specs.Sizes.{bytes_of}
use Rattle.mp4_samples.specs.declared.chunks.ChunkExtent.{ChunkExtent}
use Rattle.std.specs.List.{range_with_len}
use Rattle.mp4_tables.specs.declared.stss.StssBox.{StssBox}
use Rattle.mp4_walk.specs.declared.tree_box.TreeBox.{TreeBox}

abbrev pub offsets_in : ChunkBox → List ℕ
offsets_in (boxes.Stco v) = v.entries
offsets_in (boxes.Co64 v) = v.entries

abbrev pub numbers_in : Option StssBox → List ℕ
numbers_in None = []
numbers_in (Some v) = v.entries

-- the tables agree with one another: `AreConsistent` of mp4_samples, as a test
abbrev pub agree : SampleBoxes → Bool
agree t =
    let count = t.stsz.sample_count in
    let offsets = offsets_in t.chunk_offsets in
    (nat_lt 0 t.stsz.sample_size || (length t.stsz.sample_sizes == count))
    && (begins_at_one t.stsc.entries && (chunks_increase 0 t.stsc.entries && (nat_lt (length offsets) (2 ^ 32)
    && (nat_le count (samples_through t.stsc.entries (length offsets))
    && (nat_le count (length (durations t.stts.entries)) && (increases 0 (numbers_in t.stss)
    && list_all (λ offset. nat_lt (offset + bytes_of t.stsz 0 count) (2 ^ 64)) offsets))))))

-- the first byte at each of these offsets
abbrev pub firsts_of : List ℕ → List ChunkExtent
firsts_of offsets = map (λ offset. record { offset = offset; size = 1 }) offsets

-- the first byte of each chunk
abbrev pub first_bytes : ChunkBox → List ChunkExtent
first_bytes b = firsts_of (offsets_in b)

-- the bytes of each chunk, for tables that agree
abbrev pub whole_bytes : SampleBoxes → List ChunkExtent
whole_bytes t =
    map (chunk_at t.stsz t.stsc.entries (offsets_in t.chunk_offsets))
    (range_with_len 1 (length (offsets_in t.chunk_offsets)))

-- the chunks, the end of the last sample if the tables can be used together, and whether they disagree
pub record ChunksValue : Type 0 where
  pub chunks : List ChunkExtent
  pub time_end : Option ℕ
  pub disagree : Bool

abbrev pub value_of_chunks : TrackChunks → ChunksValue
value_of_chunks t =
    record { chunks = t.chunks.items; time_end = t.time_end; disagree = is_some t.disagreement }

abbrev pub whole_chunks : SampleBoxes → ChunksValue
whole_chunks t =
    if agree t then record { chunks = whole_bytes t; time_end = Some (end_of t.stts.entries); disagree = false } else
    record { chunks = first_bytes t.chunk_offsets; time_end = None; disagree = true }

abbrev pub loose_bytes : Result (Option ChunkBox) Problem → List ChunkExtent
loose_bytes (Ok (Some b)) = first_bytes b
loose_bytes (Ok None) = []
loose_bytes (Err _) = []

abbrev pub loose_chunks : List ℕ → List TreeBox → ChunksValue
loose_chunks file stbl =
    record {
      chunks = loose_bytes (chunks_of file (table codes.STCO stbl) (table codes.CO64 stbl));
      time_end = None;
      disagree = false;
    }

-- the tables, unless one is missing or has a fault
abbrev pub readable : Result (Option SampleBoxes) Problem → Option SampleBoxes
readable (Ok t) = t
readable (Err _) = None

abbrev pub chunks_by : List ℕ → List TreeBox → Option SampleBoxes → ChunksValue
chunks_by file stbl (Some t) = whole_chunks t
chunks_by file stbl None = loose_chunks file stbl

-- the chunks of an `stbl`. If a table is missing, has a fault or disagrees, the first byte of each chunk
abbrev pub track_chunks : List ℕ → List TreeBox → ChunksValue
track_chunks file stbl = chunks_by file stbl (readable (tables_in file stbl))

-- the sample table of a track (8.5.1)
abbrev pub sample_table : List TreeBox → Option Found
sample_table trak =
    first_in 4 (four_cc_of codes.STBL) (after_of (first_in 3 (four_cc_of codes.MINF)
    (after_of (first_in 2 (four_cc_of codes.MDIA) trak))))

abbrev pub table_with : ℕ → Option Found → Option ChunkTable → Option ChunkTable
table_with code None other = other
table_with code (Some f) other = Some (record { code = code; position = f.box.position })

-- the chunk table: the first `stco`, or else the first `co64` (8.7.5)
abbrev pub chunk_table : List TreeBox → Option ChunkTable
chunk_table stbl =
    table_with codes.STCO (table codes.STCO stbl) (table_with codes.CO64 (table codes.CO64 stbl) None)
