use Rattle.std.proofs.Common.{◌≡◌, ◌≤◌, true, drop, map, length, vec_len, vec_capacity}
use Rattle.std.specs.List.{range_with_len}
use Rattle.mp4_samples.specs.ChunkExtents.{chunk_at, samples_before}
use Rattle.mp4_samples.specs.Chunks.{chunks_increase}
use Rattle.mp4_samples.specs.Places.{GoesBy}
use Rattle.mp4_samples.specs.Samples.{offsets_of}
use Rattle.mp4_samples.proofs.chunks.chunks_of.Given as goal

abbrev pub invariant-chunks : goal.invariant-chunks
invariant-chunks l = record {
  by : GoesBy l.tables.stsc.now.entries l.place;
  begun : l.place.chunk ≤ l.index;
  later : chunks_increase l.index (drop l.place.run l.tables.stsc.now.entries) ≡ true;
  first : l.first ≡ samples_before l.tables.stsz.now l.tables.stsc.now.entries l.index;
  long : vec_len l.chunks ≡ l.index;
  room : vec_capacity l.chunks ≡ length (offsets_of l.tables.chunk_offsets);
  items : l.chunks.items ≡ map
      (chunk_at l.tables.stsz.now l.tables.stsc.now.entries (offsets_of l.tables.chunk_offsets))
      (range_with_len 1 l.index);
}
