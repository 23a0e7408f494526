-- The defaults of tracks for their fragments (ISO/IEC 14496-12, 8.8.3).
use Rattle.std.specs.Prelude.{◌≡◌, ℕ, ◌==◌, List, [], ◌∷◌, ◌++◌, Result, Ok, Err, None, Some, if◌then◌else◌}
use Rattle.std.specs.BTreeMap.{get}
use Rattle.std.specs.Option.{option_or}
use Rattle.std.specs.Ordering.{nat_cmp}
use Rattle.std.specs.declared.option.Option.{Option}
use Rattle.mp4_flat.specs.Boxes.{reads_trex}
use Rattle.mp4_flat.specs.declared.trex.TrexBox.{TrexBox}
use Rattle.mp4_frame.specs.FourCC.{four_cc_of}
use Rattle.mp4_frame.specs.declared.codes.TheConstants as codes
use Rattle.mp4_movie.specs.Levels.{Found, first_in, all_in, after_of}
use Rattle.mp4_movie.specs.Problems.{Records}
use Rattle.mp4_movie.specs.Reads.{value_at}
use Rattle.mp4_movie.specs.declared.defaults.Defaults.{Defaults}
use Rattle.mp4_movie.specs.declared.error.BoxError.{BoxError}
use Rattle.mp4_walk.specs.declared.tree_box.TreeBox.{TreeBox}

-- the trex of a movie: children of the first mvex of the first moov
abbrev pub trexes : List TreeBox → List Found
trexes boxes =
    all_in 2 (four_cc_of codes.TREX)
    (after_of (first_in 1 (four_cc_of codes.MVEX) (after_of (first_in 0 (four_cc_of codes.MOOV) boxes))))

abbrev pub ok_of : {E : Type 0} → Result TrexBox E → Option TrexBox
ok_of (Ok v) = Some v
ok_of (Err _) = None

abbrev pub errors_of : Result TrexBox BoxError → List BoxError
errors_of (Ok v) = []
errors_of (Err e) = e ∷ []

abbrev pub of_track : ℕ → Option TrexBox → Option TrexBox
of_track id None = None
of_track id (Some v) = if v.track_id == id then Some v else None

-- the defaults of a track: the first readable trex with its track_ID
abbrev pub defaults_in : List ℕ → ℕ → List Found → Option TrexBox
defaults_in file id [] = None
defaults_in file id (f ∷ fs) =
    option_or (of_track id (ok_of (value_at reads_trex codes.TREX file f.box))) (defaults_in file id fs)

-- the faults of those that can't be read, in order
abbrev pub AreFaults : List ℕ → List Found → List BoxError → Type 0
AreFaults file [] faults = faults ≡ []
AreFaults file (f ∷ fs) faults =
    (one : Result TrexBox BoxError) × (rest : List BoxError) × Records one (value_at reads_trex codes.TREX file f.box)
    × AreFaults file fs rest × (faults ≡ errors_of one ++ rest)

-- these are the defaults of each track and the faults
pub record AreDefaults (file : List ℕ) (fs : List Found) (d : Defaults) : Type 0 where
  pub by_track_is : (q : ℕ) → get nat_cmp d.by_track q ≡ defaults_in file q fs
  pub faults_are : AreFaults file fs d.faults.items
