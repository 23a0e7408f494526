-- The tracks of a file, one after the other.
use Rattle.std.proofs.Common.{◌≡◌, ℕ, List, [], ◌∷◌, ◌++◌, None, Some, refl, sym, subst, append-nil}
use Rattle.std.specs.declared.option.Option.{Option}
use Rattle.mp4_frame.specs.FourCC.{four_cc_of}
use Rattle.mp4_frame.specs.declared.codes.TheConstants as codes
use Rattle.mp4_info.specs.Facts.{AreTracks, InfoReadings, IsTrack}
use Rattle.mp4_info.specs.declared.facts.TrackFacts.{TrackFacts}
use Rattle.mp4_movie.specs.Levels.{Found, first_in, all_in}
use Rattle.mp4_movie.specs.declared.moof.MoofFragments.{MoofFragments}
use Rattle.mp4_movie.proofs.Chains.{with_more}
use Rattle.mp4_movie.proofs.Levels.{next_in}
use Rattle.mp4_walk.specs.declared.tree_box.TreeBox.{TreeBox}

-- the tracks in the list, followed by those that remain, are all tracks
abbrev pub TracksSoFar : InfoReadings → List ℕ → List MoofFragments → ℕ → List TreeBox → List TreeBox → List TrackFacts
    → Type 0
TracksSoFar r file moofs movie boxes rest known =
    (more : List TrackFacts) → AreTracks r file moofs movie (all_in 1 (four_cc_of codes.TRAK) rest) more
    → AreTracks r file moofs movie (all_in 1 (four_cc_of codes.TRAK) boxes) (known ++ more)

pub track_on : (r : InfoReadings) (file : List ℕ) (moofs : List MoofFragments) (movie : ℕ) (boxes rest : List TreeBox)
    (f : Found) (old new : List TrackFacts) (one : TrackFacts) → Some f ≡ first_in 1 (four_cc_of codes.TRAK) rest
    → new ≡ old ++ one ∷ [] → IsTrack r file moofs movie f.after one
    → TracksSoFar r file moofs movie boxes rest old → TracksSoFar r file moofs movie boxes f.after new
track_on r file moofs movie boxes rest f old new one is items here known = λ more h.
    with_more (λ (ts : List TrackFacts). AreTracks r file moofs movie (all_in 1 (four_cc_of codes.TRAK) boxes) ts) old
    new (one ∷ []) more items
    (known (one ∷ more)
    (subst (λ (fs : List Found). AreTracks r file moofs movie fs (one ∷ more))
    (sym (next_in 1 (four_cc_of codes.TRAK) rest (Some f) is)) (one, more, here, h, refl)))

pub tracks_end : (r : InfoReadings) (file : List ℕ) (moofs : List MoofFragments) (movie : ℕ)
    (boxes rest : List TreeBox) (known : List TrackFacts) → None ≡ first_in 1 (four_cc_of codes.TRAK) rest
    → TracksSoFar r file moofs movie boxes rest known
    → AreTracks r file moofs movie (all_in 1 (four_cc_of codes.TRAK) boxes) known
tracks_end r file moofs movie boxes rest known is h =
    subst (λ (ts : List TrackFacts). AreTracks r file moofs movie (all_in 1 (four_cc_of codes.TRAK) boxes) ts)
    (append-nil known)
    (h [] (subst (λ (fs : List Found). AreTracks r file moofs movie fs [])
    (sym (next_in 1 (four_cc_of codes.TRAK) rest None is)) refl))
