-- The meaning of each disagreement between the tables of a track.
use Rattle.std.specs.Prelude.{ℕ, ◌≡◌, ◌≢◌, ◌+◌, ◌<◌, ◌≤◌, ◌^◌, List, ◌∷◌, length, map, slice_index, slice_get, Contains}
use Rattle.std.specs.Prelude.{Some}
use Rattle.mp4_tables.specs.declared.stsc_entry.StscEntry.{StscEntry}
use Rattle.mp4_samples.specs.declared.tables.Tables.{Tables}
use Rattle.mp4_samples.specs.declared.disagreement.Disagreement.{Disagreement}
use Rattle.mp4_samples.specs.declared.disagreement.Disagreement.TheVariants.{SampleSizes, FirstChunk, ChunkOrder}
use Rattle.mp4_samples.specs.declared.disagreement.Disagreement.TheVariants.{ChunkCount, Chunks, Durations, SyncSamples}
use Rattle.mp4_samples.specs.declared.disagreement.Disagreement.TheVariants.{Offset}
use Rattle.mp4_samples.specs.Runs.{durations}
use Rattle.mp4_samples.specs.Chunks.{samples_through}
use Rattle.mp4_samples.specs.Sizes.{bytes_of}
use Rattle.mp4_samples.specs.Samples.{sample_count, offsets_of, stss_entries}

-- Number `i` is not above the number before it, or is 0 if it is the first.
pub record IsNotAbove (xs : List ℕ) (i : ℕ) : Type 0 where
  pub within : i < length xs
  pub order : slice_index xs i ≤ slice_index (0 ∷ xs) i

abbrev pub first_chunks : List StscEntry → List ℕ
first_chunks es = map (λ e. e.first_chunk) es

abbrev pub Disagrees : Tables → Disagreement → Type 0
Disagrees t (SampleSizes count listed) =
    (t.stsz.now.sample_size ≡ 0) × (count ≡ sample_count t)
    × (listed ≡ length t.stsz.now.sample_sizes) × (listed ≢ count)
Disagrees t (FirstChunk c) = (slice_get (first_chunks t.stsc.now.entries) 0 ≡ Some c) × (c ≢ 1)
Disagrees t (ChunkOrder i) = IsNotAbove (first_chunks t.stsc.now.entries) i
Disagrees t (ChunkCount count) = (count ≡ length (offsets_of t.chunk_offsets)) × (2 ^ 32 ≤ count)
Disagrees t (Chunks count held) =
    (count ≡ sample_count t) × (held ≡ samples_through t.stsc.now.entries (length (offsets_of t.chunk_offsets)))
    × (held < count)
Disagrees t (Durations count timed) =
    (count ≡ sample_count t) × (timed ≡ length (durations t.stts.now.entries)) × (timed < count)
Disagrees t (SyncSamples i) = IsNotAbove (stss_entries t.stss) i
Disagrees t (Offset offset bytes) =
    Contains (offsets_of t.chunk_offsets) offset × (bytes ≡ bytes_of t.stsz.now 0 (sample_count t))
    × (2 ^ 64 ≤ offset + bytes)
