-- The headers of each track of a movie.
use Rattle.std.specs.Prelude.{◌≡◌, ℕ, ◌+◌, List, [], ◌∷◌}
use Rattle.mp4_movie.specs.Levels.{Found}
use Rattle.mp4_movie.specs.Movies.{track_id, timescale, handler}
use Rattle.mp4_movie.specs.Problems.{Records}
use Rattle.mp4_movie.specs.declared.info.TrackInfo.{TrackInfo}

-- this is the information about the track of a number
pub record IsInfo (file : List ℕ) (number : ℕ) (f : Found) (t : TrackInfo) : Type 0 where
  pub number_is : t.number ≡ number
  pub position : t.position ≡ f.box.position
  pub track_id_is : Records t.track_id (track_id file f.after)
  pub timescale_is : Records t.timescale (timescale file f.after)
  pub handler_is : Records t.handler (handler file f.after)

-- these are the information about the tracks in order, starting at a number
abbrev pub AreInfos : List ℕ → ℕ → List Found → List TrackInfo → Type 0
AreInfos file number [] [] = Unit {0}
AreInfos file number (f ∷ fs) (t ∷ ts) = IsInfo file number f t × AreInfos file (number + 1) fs ts
AreInfos file number [] (_ ∷ _) = ⊥
AreInfos file number (_ ∷ _) [] = ⊥
