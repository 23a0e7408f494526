-- The trafs of a moof, one after the other.
use Rattle.std.proofs.Common.{◌≡◌, ℕ, List, [], ◌∷◌, ◌++◌, None, Some, Result, refl, sym, subst, append-nil}
use Rattle.std.proofs.Math.Path.{fun_ext}
use Rattle.std.specs.BTreeMap.{get}
use Rattle.std.specs.Ordering.{nat_cmp}
use Rattle.std.specs.Prelude.{IfOk}
use Rattle.std.specs.declared.option.Option.{Option}
use Rattle.mp4_flat.specs.declared.trex.TrexBox.{TrexBox}
use Rattle.mp4_frame.specs.FourCC.{four_cc_of}
use Rattle.mp4_frame.specs.declared.codes.TheConstants as codes
use Rattle.mp4_movie.specs.Defaults.{AreDefaults, trexes}
use Rattle.mp4_movie.specs.Fragments.{AreFragments, AreOfMoof, AreOfMoofs, AreOfTrafs, IsStep}
use Rattle.mp4_movie.specs.declared.defaults.Defaults.{Defaults}
use Rattle.mp4_movie.specs.declared.moof.MoofFragments.{MoofFragments}
use Rattle.mp4_movie.specs.Levels.{Found, first_in, all_in}
use Rattle.mp4_movie.specs.declared.error.BoxError.{BoxError}
use Rattle.mp4_movie.specs.declared.track_fragment.TrackFragment.{TrackFragment}
use Rattle.mp4_movie.proofs.Chains.{with_more}
use Rattle.mp4_movie.proofs.Levels.{next_in}
use Rattle.mp4_walk.specs.declared.tree_box.TreeBox.{TreeBox}

abbrev pub StepsSoFar : List ℕ → (ℕ → Option TrexBox) → ℕ → List TreeBox → Option ℕ → List TreeBox
    → List (Result TrackFragment BoxError) → Type 0
StepsSoFar file defaults moof boxes end rest known =
    (more : List (Result TrackFragment BoxError))
    → AreOfTrafs file defaults moof end (all_in 1 (four_cc_of codes.TRAF) rest) more
    → AreOfMoof file defaults moof boxes (known ++ more)

pub one_more_step : (file : List ℕ) (defaults : ℕ → Option TrexBox) (moof : ℕ) (boxes rest : List TreeBox)
    (end next : Option ℕ) (f : Found) (old new : List (Result TrackFragment BoxError))
    (one : Result TrackFragment BoxError) → Some f ≡ first_in 1 (four_cc_of codes.TRAF) rest → new ≡ old ++ one ∷ []
    → IsStep file defaults moof end f.after one next → StepsSoFar file defaults moof boxes end rest old
    → StepsSoFar file defaults moof boxes next f.after new
one_more_step file defaults moof boxes rest end next f old new one is items step known = λ more h.
    with_more (λ (rs : List (Result TrackFragment BoxError)). AreOfMoof file defaults moof boxes rs) old new (one ∷ [])
    more items
    (known (one ∷ more)
    (subst (λ (fs : List Found). AreOfTrafs file defaults moof end fs (one ∷ more))
    (sym (next_in 1 (four_cc_of codes.TRAF) rest (Some f) is)) (next, one, more, step, h, refl)))

pub at_end : (file : List ℕ) (defaults : ℕ → Option TrexBox) (moof : ℕ) (boxes rest : List TreeBox)
    (end : Option ℕ) (known : List (Result TrackFragment BoxError)) → None ≡ first_in 1 (four_cc_of codes.TRAF) rest
    → StepsSoFar file defaults moof boxes end rest known → AreOfMoof file defaults moof boxes known
at_end file defaults moof boxes rest end known is h =
    subst (λ (rs : List (Result TrackFragment BoxError)). AreOfMoof file defaults moof boxes rs) (append-nil known)
    (h [] (subst (λ (fs : List Found). AreOfTrafs file defaults moof end fs [])
    (sym (next_in 1 (four_cc_of codes.TRAF) rest None is)) refl))

-- the moofs of a file, one after the other
abbrev pub MoofsSoFar : List ℕ → (ℕ → Option TrexBox) → List TreeBox → List TreeBox → List MoofFragments → Type 0
MoofsSoFar file defaults boxes rest known =
    (more : List MoofFragments) → AreOfMoofs file defaults (all_in 0 (four_cc_of codes.MOOF) rest) more
    → AreOfMoofs file defaults (all_in 0 (four_cc_of codes.MOOF) boxes) (known ++ more)

pub moof_on : (file : List ℕ) (defaults : ℕ → Option TrexBox) (boxes rest : List TreeBox) (f : Found)
    (old new : List MoofFragments) (one : MoofFragments) → Some f ≡ first_in 0 (four_cc_of codes.MOOF) rest
    → new ≡ old ++ one ∷ [] → one.position ≡ f.box.position
    → AreOfMoof file defaults f.box.position f.after one.fragments.items → MoofsSoFar file defaults boxes rest old
    → MoofsSoFar file defaults boxes f.after new
moof_on file defaults boxes rest f old new one is items at here known = λ more h.
    with_more (λ (rs : List MoofFragments). AreOfMoofs file defaults (all_in 0 (four_cc_of codes.MOOF) boxes) rs) old
    new (one ∷ []) more items
    (known (one ∷ more)
    (subst (λ (fs : List Found). AreOfMoofs file defaults fs (one ∷ more))
    (sym (next_in 0 (four_cc_of codes.MOOF) rest (Some f) is)) (one, more, at, here, h, refl)))

pub moofs_end : (file : List ℕ) (defaults : ℕ → Option TrexBox) (boxes rest : List TreeBox)
    (known : List MoofFragments) → None ≡ first_in 0 (four_cc_of codes.MOOF) rest
    → MoofsSoFar file defaults boxes rest known
    → AreOfMoofs file defaults (all_in 0 (four_cc_of codes.MOOF) boxes) known
moofs_end file defaults boxes rest known is h =
    subst (λ (rs : List MoofFragments). AreOfMoofs file defaults (all_in 0 (four_cc_of codes.MOOF) boxes) rs)
    (append-nil known)
    (h [] (subst (λ (fs : List Found). AreOfMoofs file defaults fs [])
    (sym (next_in 0 (four_cc_of codes.MOOF) rest None is)) refl))

-- with the defaults that the movie has
pub with_defaults : {A E : Type 0} (file : List ℕ) (boxes : List TreeBox) (d : Defaults) (result : Result A E)
    (items : A → List MoofFragments)
    → IfOk result (λ ms. AreOfMoofs file (λ (q : ℕ). get nat_cmp d.by_track q)
    (all_in 0 (four_cc_of codes.MOOF) boxes) (items ms))
    → AreDefaults file (trexes boxes) d → IfOk result (λ ms. AreFragments file boxes (items ms))
with_defaults file boxes d result items h is =
    subst (λ (D : ℕ → Option TrexBox).
    IfOk result (λ ms. AreOfMoofs file D (all_in 0 (four_cc_of codes.MOOF) boxes) (items ms)))
    (fun_ext (λ (q : ℕ). is.by_track_is q)) h
