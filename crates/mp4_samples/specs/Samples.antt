-- The samples of a track by its tables (ISO/IEC 14496-12, 8.6 and 8.7), and the conditions for tables to agree.
use Rattle.std.specs.Prelude.{ℕ, ◌≡◌, ◌+◌, ◌<◌, ◌≤◌, ◌^◌, Bool, true, List, [], ◌∷◌, length, nat_eq, All, Option, Some}
use Rattle.std.specs.Prelude.{None}
use Rattle.std.specs.Borrow.{Bor}
use Rattle.mp4_tables.specs.declared.stsc_entry.StscEntry.{StscEntry}
use Rattle.mp4_samples.specs.declared.sample.Sample.{Sample}
use Rattle.mp4_samples.specs.declared.tables.Tables.{Tables}
use Rattle.mp4_samples.specs.declared.tables.ChunkOffsets.{ChunkOffsets}
use Rattle.mp4_samples.specs.declared.tables.ChunkOffsets.TheVariants.{Stco, Co64}
use Rattle.mp4_samples.specs.Runs.{durations, duration_of, start_of, rendering_offset_of, is_listed, increases}
use Rattle.mp4_samples.specs.Chunks.{entry_of, samples_through, IsInChunk, chunks_increase}
use Rattle.mp4_samples.specs.Sizes.{size_of, bytes_of, offset_of}
use Rattle.mp4_tables.specs.declared.ctts_entry.CttsEntry.{CttsEntry}
use Rattle.mp4_tables.specs.declared.ctts.CttsBox.{CttsBox}
use Rattle.mp4_tables.specs.declared.stss.StssBox.{StssBox}

abbrev pub offsets_of : ChunkOffsets → List ℕ
offsets_of (Stco b) = b.now.entries
offsets_of (Co64 b) = b.now.entries

-- The first entry, if any, begins at chunk 1.
abbrev pub begins_at_one : List StscEntry → Bool
begins_at_one [] = true
begins_at_one (e ∷ es) = nat_eq e.first_chunk 1

-- The entries of ctts. There are none without a ctts, so each composition offset is 0.
abbrev pub ctts_entries : Option (Bor CttsBox) → List CttsEntry
ctts_entries None = []
ctts_entries (Some b) = b.now.entries

abbrev pub stss_entries : Option (Bor StssBox) → List ℕ
stss_entries None = []
stss_entries (Some b) = b.now.entries

-- Sample `k` is a sync sample (8.6.2). Without an stss each sample is one. The numbers in stss are counted from 1.
abbrev pub is_sync_in : Option (Bor StssBox) → ℕ → Bool
is_sync_in None k = true
is_sync_in (Some b) k = is_listed (k + 1) b.now.entries

-- The number of samples of the track.
abbrev pub sample_count : Tables → ℕ
sample_count t = t.stsz.now.sample_count

-- `s` is sample `k` of the track, counted from 0.
pub record IsSample (t : Tables) (k : ℕ) (s : Sample) : Type 0 where
  pub size : s.size ≡ size_of t.stsz.now k
  pub chunk : IsInChunk t.stsc.now.entries s.chunk k
  pub offset : s.offset ≡ offset_of t.stsz.now t.stsc.now.entries (offsets_of t.chunk_offsets) s.chunk k
  pub description : s.sample_description_index ≡ (entry_of t.stsc.now.entries s.chunk).sample_description_index
  pub start_time : s.start_time ≡ start_of t.stts.now.entries k
  pub duration : s.duration ≡ duration_of t.stts.now.entries k
  pub rendering_offset : s.rendering_offset ≡ rendering_offset_of (ctts_entries t.ctts) k
  pub sync : s.is_sync ≡ is_sync_in t.stss k

-- The tables agree with one another, so that each sample that stsz counts exists.
pub record AreConsistent (t : Tables) : Type 0 where
  pub listed : t.stsz.now.sample_size ≡ 0 → length t.stsz.now.sample_sizes ≡ sample_count t
  pub first : begins_at_one t.stsc.now.entries ≡ true
  pub increase : chunks_increase 0 t.stsc.now.entries ≡ true
  pub counted : length (offsets_of t.chunk_offsets) < 2 ^ 32
  pub placed : sample_count t ≤ samples_through t.stsc.now.entries (length (offsets_of t.chunk_offsets))
  pub timed : sample_count t ≤ length (durations t.stts.now.entries)
  pub sync : increases 0 (stss_entries t.stss) ≡ true
  pub within : All (λ offset. offset + bytes_of t.stsz.now 0 (sample_count t) < 2 ^ 64) (offsets_of t.chunk_offsets)
