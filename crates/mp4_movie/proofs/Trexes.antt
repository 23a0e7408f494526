-- The defaults of tracks, one box after the other.
use Rattle.std.proofs.Common.{◌≡◌, ℕ, List, [], ◌++◌, None, Some, Result, Ok, Err, refl, sym, ap, subst, ◌∙◌}
use Rattle.std.proofs.Common.{append-nil}
use Rattle.std.specs.BTreeMap.{get}
use Rattle.std.specs.Option.{option_or}
use Rattle.std.specs.Ordering.{nat_cmp}
use Rattle.std.specs.declared.option.Option.{Option}
use Rattle.mp4_flat.specs.Boxes.{reads_trex}
use Rattle.mp4_flat.specs.declared.trex.TrexBox.{TrexBox}
use Rattle.mp4_frame.specs.FourCC.{four_cc_of}
use Rattle.mp4_frame.specs.declared.codes.TheConstants as codes
use Rattle.mp4_movie.specs.Defaults.{AreDefaults, AreFaults, defaults_in, errors_of, of_track, ok_of}
use Rattle.mp4_movie.specs.Levels.{Found, all_in, first_in}
use Rattle.mp4_movie.specs.Problems.{Problem, Records}
use Rattle.mp4_movie.specs.Reads.{value_at}
use Rattle.mp4_movie.specs.declared.defaults.Defaults.{Defaults}
use Rattle.mp4_movie.specs.declared.error.BoxError.{BoxError}
use Rattle.mp4_movie.proofs.Chains.{with_more}
use Rattle.mp4_movie.proofs.Levels.{next_in}
use Rattle.mp4_walk.specs.declared.tree_box.TreeBox.{TreeBox}

or_none : (o : Option TrexBox) → option_or o None ≡ o
or_none None = refl
or_none (Some v) = refl

or_assoc : (a b c : Option TrexBox) → option_or (option_or a b) c ≡ option_or a (option_or b c)
or_assoc None b c = refl
or_assoc (Some v) b c = refl

ok_recorded : (one : Result TrexBox BoxError) (r : Result TrexBox Problem) → Records one r → ok_of one ≡ ok_of r
ok_recorded (Ok v) r h = ap (λ (s : Result TrexBox Problem). ok_of s) (sym h)
ok_recorded (Err e) r h = ap (λ (s : Result TrexBox Problem). ok_of s) (sym h.1)

-- the defaults of a track are the stored ones, or those that are left
abbrev pub SoFar : List ℕ → List Found → List TreeBox → (ℕ → Option TrexBox) → Type 0
SoFar file all rest D =
    (q : ℕ) → defaults_in file q all
    ≡ option_or (D q) (defaults_in file q (all_in 2 (four_cc_of codes.TREX) rest))

-- the faults in a list, followed by those that are left, are all faults
abbrev pub FaultsSoFar : List ℕ → List Found → List TreeBox → List BoxError → Type 0
FaultsSoFar file all rest known =
    (more : List BoxError) → AreFaults file (all_in 2 (four_cc_of codes.TREX) rest) more
    → AreFaults file all (known ++ more)

pub trex_on : (file : List ℕ) (all : List Found) (rest : List TreeBox) (f : Found) (D E : ℕ → Option TrexBox)
    (one : Result TrexBox BoxError) → Some f ≡ first_in 2 (four_cc_of codes.TREX) rest
    → ((q : ℕ) → E q ≡ option_or (D q) (of_track q (ok_of one)))
    → Records one (value_at reads_trex codes.TREX file f.box) → SoFar file all rest D → SoFar file all f.after E
trex_on file all rest f D E one is kept read h = λ q.
    let left = defaults_in file q (all_in 2 (four_cc_of codes.TREX) f.after) in
    h q
    ∙ ap (λ (fs : List Found). option_or (D q) (defaults_in file q fs))
    (next_in 2 (four_cc_of codes.TREX) rest (Some f) is)
    ∙ sym (or_assoc (D q) (of_track q (ok_of (value_at reads_trex codes.TREX file f.box))) left)
    ∙ ap (λ (o : Option TrexBox). option_or o left)
    (sym (kept q ∙ ap (λ (o : Option TrexBox). option_or (D q) (of_track q o)) (ok_recorded one _ read)))

pub faults_on : (file : List ℕ) (all : List Found) (rest : List TreeBox) (f : Found) (old new : List BoxError)
    (one : Result TrexBox BoxError) → Some f ≡ first_in 2 (four_cc_of codes.TREX) rest
    → new ≡ old ++ errors_of one → Records one (value_at reads_trex codes.TREX file f.box)
    → FaultsSoFar file all rest old → FaultsSoFar file all f.after new
faults_on file all rest f old new one is items read known = λ more h.
    with_more (λ (es : List BoxError). AreFaults file all es) old new (errors_of one) more items
    (known (errors_of one ++ more)
    (subst (λ (fs : List Found). AreFaults file fs (errors_of one ++ more))
    (sym (next_in 2 (four_cc_of codes.TREX) rest (Some f) is)) (one, more, read, h, refl)))

pub at_end : (file : List ℕ) (all : List Found) (rest : List TreeBox) (d : Defaults)
    → None ≡ first_in 2 (four_cc_of codes.TREX) rest → SoFar file all rest (λ (q : ℕ). get nat_cmp d.by_track q)
    → FaultsSoFar file all rest d.faults.items → AreDefaults file all d
at_end file all rest d is h known =
    let none = next_in 2 (four_cc_of codes.TREX) rest None is in
    let D : ℕ → Option TrexBox = λ (q : ℕ). get nat_cmp d.by_track q in
    record {
      by_track_is = λ q. sym (h q
          ∙ ap (λ (fs : List Found). option_or (D q) (defaults_in file q fs)) none
          ∙ or_none (D q));
      faults_are = subst (λ (es : List BoxError). AreFaults file all es) (append-nil d.faults.items)
          (known [] (subst (λ (fs : List Found). AreFaults file fs []) (sym none) refl));
    }
