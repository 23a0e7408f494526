-- The samples of a track of a new file, by those of a track of the old file.
use Rattle.std.specs.Prelude.{ℕ, ◌≡◌, ◌+◌, ◌<◌, ◌≤◌, List, None, Some, Ok, Err, Result}
use Rattle.std.specs.declared.option.Option.{Option}
use Rattle.mp4_remux.specs.declared.media.Untold.{Untold}
use Rattle.mp4_remux.specs.declared.pieces.piece.Piece.{Piece}
use Rattle.mp4_remux.specs.Pieces.{Carries}
use Rattle.mp4_samples.specs.declared.sample.Sample.{Sample}
use Rattle.mp4_remux.specs.declared.kept.Pair.{Pair}
use Rattle.mp4_remux.specs.declared.kept.Pair.TheVariants as pairs

-- two samples are the same except for their positions
pub record AreAlike (a b : Sample) : Type 0 where
  pub size : b.size ≡ a.size
  pub start_time : b.start_time ≡ a.start_time
  pub duration : b.duration ≡ a.duration
  pub rendering_offset : b.rendering_offset ≡ a.rendering_offset
  pub sync : b.is_sync ≡ a.is_sync
  pub description : b.sample_description_index ≡ a.sample_description_index

-- sample b of the new file is sample a of the old file: each of its bytes is that byte of a, by the pieces
pub record IsCarried (ps : List Piece) (a b : Sample) : Type 0 where
  pub alike : AreAlike a b
  pub bytes : Carries ps b.offset a.size a.offset

-- the outcome for the next samples of two tracks
abbrev pub Tells : List Piece → Result (Option Sample) Untold → Result (Option Sample) Untold → Pair → Type 0
Tells ps (Ok (Some a)) (Ok (Some b)) pairs.Same = IsCarried ps a b
Tells ps (Ok (Some a)) (Ok (Some b)) pairs.Lost = IsCarried ps a b → ⊥
Tells ps (Ok (Some a)) (Ok None) pairs.Lost = Unit {0}
Tells ps (Ok (Some a)) (Err e) pairs.Lost = Unit {0}
Tells ps (Ok None) (Ok None) pairs.Ended = Unit {0}
Tells ps (Ok None) (Ok (Some b)) pairs.Lost = Unit {0}
Tells ps (Ok None) (Err e) pairs.Lost = Unit {0}
Tells ps (Err e) r pairs.Lost = Unit {0}
Tells ps _ _ _ = ⊥

module _ {T U : Type 0} (is : T → ℕ → Sample → Type 0) (count : T → ℕ) (are : U → ℕ → Sample → Type 0) (counts : U → ℕ)
    (ps : List Piece) (t : T) (u : U) where
  -- both tracks have a sample k, and they are the same
  pub record KeepsSample (k : ℕ) : Type 0 where
    pub before : Sample
    pub after : Sample
    pub is_before : is t k before
    pub is_after : are u k after
    pub carried : IsCarried ps before after

  -- the new track has as many samples, each the same
  pub record KeepsSamples : Type 0 where
    pub counted : counts u ≡ count t
    pub each : (k : ℕ) → k < count t → KeepsSample k

  -- the outcome for the samples of number n
  abbrev pub IsPair : ℕ → Pair → ℕ → ℕ → Type 0
  IsPair n pairs.Same m o = (n < count t) × (n < counts u) × KeepsSample n × (m ≡ n + 1) × (o ≡ n + 1)
  IsPair n pairs.Ended m o = (count t ≤ n) × (counts u ≤ n)
  IsPair n pairs.Lost m o = KeepsSamples → ⊥
