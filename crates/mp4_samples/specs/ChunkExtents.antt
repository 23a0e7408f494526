-- The chunks of a track: the place of each and its bytes (8.7.3 to 8.7.5). Chunks are counted from 1.
use Rattle.std.specs.Prelude.{ℕ, ◌-◌, min, List, length, map, slice_index}
use Rattle.std.specs.List.{range_with_len}
use Rattle.mp4_tables.specs.declared.stsz.StszBox.{StszBox}
use Rattle.mp4_tables.specs.declared.stsc_entry.StscEntry.{StscEntry}
use Rattle.mp4_samples.specs.declared.chunks.ChunkExtent.{ChunkExtent}
use Rattle.mp4_samples.specs.declared.tables.Tables.{Tables}
use Rattle.mp4_samples.specs.Chunks.{samples_through}
use Rattle.mp4_samples.specs.Samples.{offsets_of}
use Rattle.mp4_samples.specs.Sizes.{bytes_of}

-- The number of samples in the first `c` chunks. The chunks may have room for more samples than `stsz` counts.
abbrev pub samples_before : StszBox → List StscEntry → ℕ → ℕ
samples_before z es c = min (samples_through es c) z.sample_count

-- Chunk `c`.
abbrev pub chunk_at : StszBox → List StscEntry → List ℕ → ℕ → ChunkExtent
chunk_at z es offsets c =
    let first = samples_before z es (c - 1) in
    record { offset = slice_index offsets (c - 1); size = bytes_of z first (samples_before z es c - first) }

-- All chunks.
abbrev pub chunks_of : Tables → List ChunkExtent
chunks_of t =
    map (chunk_at t.stsz.now t.stsc.now.entries (offsets_of t.chunk_offsets))
    (range_with_len 1 (length (offsets_of t.chunk_offsets)))
