-- Tracks whose tables differ in the offsets of their chunks only.
use Rattle.std.specs.Prelude.{ℕ, ◌≡◌, ◌<◌, List, length, slice_index, slice_index_or}
use Rattle.mp4_movie.specs.declared.sample_boxes.SampleBoxes.{SampleBoxes}
use Rattle.mp4_remux.specs.Pieces.{Carries}
use Rattle.mp4_remux.specs.declared.pieces.piece.Piece.{Piece}
use Rattle.mp4_samples.specs.declared.chunks.ChunkExtent.{ChunkExtent}

-- all tables are the same, except for the offsets of the chunks
pub record HaveSameTables (v w : SampleBoxes) : Type 0 where
  pub stsz : w.stsz ≡ v.stsz
  pub stsc : w.stsc ≡ v.stsc
  pub stts : w.stts ≡ v.stts
  pub ctts : w.ctts ≡ v.ctts
  pub stss : w.stss ≡ v.stss

-- the first n of these chunks of the old file are carried to these offsets of the new file
abbrev pub CarriesFirst : List Piece → List ChunkExtent → List ℕ → ℕ → Type 0
CarriesFirst ps chunks offsets n =
    (i : ℕ) (c : ChunkExtent) → i < n → c ≡ slice_index_or chunks i c
    → Carries ps (slice_index offsets i) c.size c.offset

abbrev pub CarriesChunks : List Piece → List ChunkExtent → List ℕ → Type 0
CarriesChunks ps chunks offsets = CarriesFirst ps chunks offsets (length chunks)
