-- The sample tables of a track.
use Rattle.std.specs.Prelude.{◌≡◌, ℕ, Bool, true, false, List, [], ◌∷◌, Result, Ok, Err, None, Some, if◌then◌else◌}
use Rattle.std.specs.Borrow.{Bor}
use Rattle.std.specs.declared.option.Option.{Option}
use Rattle.mp4_frame.specs.FourCC.{four_cc_of}
use Rattle.mp4_frame.specs.declared.codes.TheConstants as codes
use Rattle.mp4_movie.specs.CompactSizes.{compact_sizes}
use Rattle.mp4_movie.specs.Levels.{Found, first_in}
use Rattle.mp4_movie.specs.Problems.{Problem, NoBox, ◌>>=◌}
use Rattle.mp4_movie.specs.Reads.{value_at, required, optional}
use Rattle.mp4_movie.specs.declared.sample_boxes.ChunkBox.{ChunkBox}
use Rattle.mp4_movie.specs.declared.sample_boxes.ChunkBox.TheVariants as chunks
use Rattle.mp4_movie.specs.declared.sample_boxes.SampleBoxes.{SampleBoxes}
use Rattle.mp4_samples.specs.declared.tables.ChunkOffsets.{ChunkOffsets}
use Rattle.mp4_samples.specs.declared.tables.ChunkOffsets.TheVariants as offsets
use Rattle.mp4_samples.specs.declared.tables.Tables.{Tables}
use Rattle.mp4_tables.specs.Boxes.{reads_co64, reads_ctts, reads_stco, reads_stsc, reads_stss, reads_stsz, reads_stts}
use Rattle.mp4_tables.specs.declared.stsz.StszBox.{StszBox}
use Rattle.mp4_walk.specs.declared.tree_box.TreeBox.{TreeBox}

-- the first child of a sample table that has this code
abbrev pub table : ℕ → List TreeBox → Option Found
table code stbl = first_in 5 (four_cc_of code) stbl

-- the sizes: those of `stsz`, or those of `stz2` if there is no `stsz` (ISO/IEC 14496-12, 8.7.3)
abbrev pub sizes_of : List ℕ → Option Found → Option Found → Result (Option StszBox) Problem
sizes_of file (Some f) stz2 = value_at reads_stsz codes.STSZ file f.box >>= λ v. Ok (Some v)
sizes_of file None (Some f) = compact_sizes file f.box >>= λ v. Ok (Some v)
sizes_of file None None = Ok None

-- the chunk offsets: those of stco, or those of co64 if there is no stco (ISO/IEC 14496-12, 8.7.5)
abbrev pub chunks_of : List ℕ → Option Found → Option Found → Result (Option ChunkBox) Problem
chunks_of file (Some f) co64 = value_at reads_stco codes.STCO file f.box >>= λ v. Ok (Some (chunks.Stco v))
chunks_of file None (Some f) = value_at reads_co64 codes.CO64 file f.box >>= λ v. Ok (Some (chunks.Co64 v))
chunks_of file None None = Ok None

abbrev pub is_any : List ℕ → Bool
is_any [] = false
is_any (_ ∷ _) = true

abbrev pub has_chunk : Option ChunkBox → Bool
has_chunk None = false
has_chunk (Some (chunks.Stco v)) = is_any v.entries
has_chunk (Some (chunks.Co64 v)) = is_any v.entries

abbrev pub or_missing : {A : Type 0} → ℕ → Option A → Result A Problem
or_missing code None = Err (NoBox (four_cc_of code))
or_missing code (Some v) = Ok v

-- all tables of a track that has sizes. If it has neither `stco` nor `co64`, the problem names `stco`
abbrev pub with_sizes : List ℕ → List TreeBox → Option ChunkBox → StszBox → Result SampleBoxes Problem
with_sizes file stbl offsets stsz =
    or_missing codes.STCO offsets >>= λ chunk_offsets.
    required reads_stsc codes.STSC file (table codes.STSC stbl) >>= λ stsc.
    required reads_stts codes.STTS file (table codes.STTS stbl) >>= λ stts.
    optional reads_ctts codes.CTTS file (table codes.CTTS stbl) >>= λ ctts.
    optional reads_stss codes.STSS file (table codes.STSS stbl) >>= λ stss.
    Ok (record { stsz = stsz; stsc = stsc; chunk_offsets = chunk_offsets; stts = stts; ctts = ctts; stss = stss })

-- A track with no sizes and no chunk has no samples except those of fragments, whatever other tables it has. If it has
-- a chunk and no sizes, the problem names `stsz`.
abbrev pub by_sizes : List ℕ → List TreeBox → Option ChunkBox → Option StszBox → Result (Option SampleBoxes) Problem
by_sizes file stbl offsets None = if has_chunk offsets then Err (NoBox (four_cc_of codes.STSZ)) else Ok None
by_sizes file stbl offsets (Some stsz) = with_sizes file stbl offsets stsz >>= λ t. Ok (Some t)

-- the sample tables of an `stbl`. `stbl` begins with the boxes inside it. The first problem is the first in this order:
-- sizes, chunk offsets, chunks, durations, composition offsets, sync samples
abbrev pub tables_in : List ℕ → List TreeBox → Result (Option SampleBoxes) Problem
tables_in file stbl =
    sizes_of file (table codes.STSZ stbl) (table codes.STZ2 stbl) >>= λ sizes.
    chunks_of file (table codes.STCO stbl) (table codes.CO64 stbl) >>= λ offsets.
    by_sizes file stbl offsets sizes

abbrev pub AreChunksOf : ChunkBox → ChunkOffsets → Type 0
AreChunksOf (chunks.Stco v) (offsets.Stco b) = b.now ≡ v
AreChunksOf (chunks.Co64 v) (offsets.Co64 b) = b.now ≡ v
AreChunksOf (chunks.Stco v) (offsets.Co64 b) = ⊥
AreChunksOf (chunks.Co64 v) (offsets.Stco b) = ⊥

abbrev pub now_of : {A : Type 0} → Option (Bor A) → Option A
now_of None = None
now_of (Some b) = Some b.now

-- each table is that of the box
pub record AreTablesOf (v : SampleBoxes) (t : Tables) : Type 0 where
  pub stsz : t.stsz.now ≡ v.stsz
  pub stsc : t.stsc.now ≡ v.stsc
  pub chunks : AreChunksOf v.chunk_offsets t.chunk_offsets
  pub stts : t.stts.now ≡ v.stts
  pub ctts : now_of t.ctts ≡ v.ctts
  pub stss : now_of t.stss ≡ v.stss
