-- The tracks of a movie by their places.
use Rattle.std.proofs.Common.{◌≡◌, ℕ, zero, suc, Bool, true, false, ◌+◌, ◌-◌, ◌<◌, ◌≤◌, List, [], ◌∷◌, ◌++◌, length}
use Rattle.std.proofs.Common.{map, drop, get_or, None, Some, Result}
use Rattle.std.proofs.Common.{Err, refl, sym, ap, subst, ◌∙◌, arith, append-nil}
use Rattle.std.specs.Prelude.{IfSome, ◌==◌, if◌then◌else◌}
use Rattle.std.specs.declared.option.Option.{Option}
use Rattle.std.proofs.Math.ListN.{drop_of_length-le}
use Rattle.std.proofs.lemmas.Bool.{ne_eqb}
use Rattle.std.proofs.lemmas.List.{length-map}
use Rattle.mp4_frame.specs.FourCC.{four_cc_of}
use Rattle.mp4_frame.specs.declared.codes.TheConstants as codes
use Rattle.mp4_frame.specs.declared.four_cc.FourCC.{FourCC}
use Rattle.mp4_movie.specs.Infos.{AreInfos, IsInfo}
use Rattle.mp4_movie.specs.Levels.{Found}
use Rattle.mp4_movie.specs.Movies.{IsMovie, first_with, found_at, has_id, of_track, traks}
use Rattle.mp4_movie.specs.Problems.{Problem, NoBox, ReturnsFor, Returns, ◌>>=◌}
use Rattle.mp4_movie.specs.declared.error.BoxError.TheVariants as faults
use Rattle.mp4_movie.specs.declared.error.MovieError.{MovieError}
use Rattle.mp4_movie.specs.declared.error.MovieError.TheVariants as errors
use Rattle.mp4_movie.specs.declared.info.TrackInfo.{TrackInfo}
use Rattle.mp4_movie.specs.declared.places.TrakPlace.{TrakPlace}
use Rattle.mp4_lemmas.proofs.Outcomes.{both_known}
use Rattle.mp4_movie.proofs.Chains.{with_more}
use Rattle.mp4_movie.proofs.Levels.{by_bool}
use Rattle.mp4_walk.specs.FileBoxes.{boxes_of}
use Rattle.mp4_walk.specs.declared.tree_box.TreeBox.{TreeBox}

-- what holds of the tracks at the places that are kept holds of those of the file
pub of_movie : (bytes : Option (List ℕ)) (boxes : List TreeBox) (places : List TrakPlace)
    (P : List ℕ → List Found → Type 0) → IsMovie bytes boxes places
    → IfSome bytes (λ file. P file (map (found_at boxes) places))
    → IfSome bytes (λ file. P file (traks (boxes_of file)))
of_movie bytes boxes places P is h =
    both_known bytes bytes refl h is.known
    (λ file k known. subst (λ (fs : List Found). P file fs) (is.are ∙ ap (λ (xs : List TreeBox). traks xs) known) k)

pub of_boxes : (bytes : Option (List ℕ)) (boxes : List TreeBox) (places : List TrakPlace)
    (P : List ℕ → List TreeBox → Type 0) → IsMovie bytes boxes places → IfSome bytes (λ file. P file boxes)
    → IfSome bytes (λ file. P file (boxes_of file))
of_boxes bytes boxes places P is h =
    both_known bytes bytes refl h is.known
    (λ file k known. subst (λ (xs : List TreeBox). P file xs) known k)

-- no track has a number that is too large
pub none_past : {A : Type 0} (read : List TreeBox → Result A Problem) (k : ℕ) (fs : List Found) → length fs ≤ k
    → of_track read k fs ≡ Err (NoBox (four_cc_of codes.TRAK))
none_past read k [] past = refl
none_past read k (f ∷ fs) past =
    let more : (k == 0) ≡ false = ne_eqb _ _ (λ z. absurd (omega (arith, z, past))) in
    rw more (none_past read (k - 1) fs (omega (arith, past)))

-- an answer that follows from an answer for the same track
pub track_then : {A C : Type 0} (read : List TreeBox → Result A Problem) (f : A → Result C Problem) (k : ℕ)
    (fs : List Found) → of_track (λ trak. read trak >>= f) k fs ≡ (of_track read k fs >>= f)
track_then read f k [] = refl
track_then read f k (x ∷ xs) =
    by_bool (k == 0) (λ e. rw e refl) (λ e. rw e (track_then read f (k - 1) xs))

-- the track at a place
pub at_place : {A : Type 0} (read : List TreeBox → Result A Problem) (k : ℕ) (boxes : List TreeBox)
    (ps : List TrakPlace) (p : TrakPlace) → k < length ps
    → of_track read k (map (found_at boxes) ps) ≡ read (drop (get_or ps k p).first boxes)
at_place read k boxes [] p less = absurd (omega (arith, less))
at_place read zero boxes (q ∷ qs) p less = refl
at_place read (suc k) boxes (q ∷ qs) p less =
    let more : (suc k == 0) ≡ false = ne_eqb _ _ (λ z. absurd (omega (arith, z))) in
    let one : suc k - 1 ≡ k = omega arith in
    rw (more, one) (at_place read k boxes qs p (omega (arith, less)))

pub returns_at : {A : Type 0} (bytes : Option (List ℕ)) (read : List ℕ → List TreeBox → Result A Problem) (number : ℕ)
    (boxes : List TreeBox) (places : List TrakPlace) (p : TrakPlace) (trak : List TreeBox) (r : Result A MovieError)
    → number < length places → trak ≡ drop (get_or places number p).first boxes
    → ReturnsFor bytes r (λ file. read file trak)
    → ReturnsFor bytes r (λ file. of_track (read file) number (map (found_at boxes) places))
returns_at {A} None read number boxes places p trak r less is h = tt
returns_at {A} (Some file) read number boxes places p trak r less is h =
    subst (λ (o : Result A Problem). Returns r o)
    (ap (λ (xs : List TreeBox). read file xs) is ∙ sym (at_place (read file) number boxes places p less)) h

pub returns_past : {A : Type 0} (bytes : Option (List ℕ)) (read : List ℕ → List TreeBox → Result A Problem) (number : ℕ)
    (boxes : List TreeBox) (places : List TrakPlace) (code : FourCC) → code ≡ four_cc_of codes.TRAK
    → length places ≤ number
    → ReturnsFor {A = A} bytes (Err (errors.Box (faults.Missing code)))
    (λ file. of_track (read file) number (map (found_at boxes) places))
returns_past {A} None read number boxes places code is past = tt
returns_past {A} (Some file) read number boxes places code is past = (
  NoBox (four_cc_of codes.TRAK),
  none_past (read file) number (map (found_at boxes) places)
      (omega (arith, length-map places (found_at boxes), past)),
  ap (λ (c : FourCC). NoBox c) (sym is),
)

-- the tracks from a place on
from_place : (number : ℕ) (boxes : List TreeBox) (ps : List TrakPlace) (p : TrakPlace) → number < length ps
    → drop number (map (found_at boxes) ps)
    ≡ found_at boxes (get_or ps number p) ∷ drop (number + 1) (map (found_at boxes) ps)
from_place number boxes [] p less = absurd (omega (arith, less))
from_place zero boxes (q ∷ qs) p less = refl
from_place (suc k) boxes (q ∷ qs) p less =
    let fs = map (found_at boxes) (q ∷ qs) in
    let more : suc (k + 1) ≡ suc k + 1 = omega arith in
    from_place k boxes qs p (omega (arith, less))
    ∙ ap (λ (n : ℕ). found_at boxes (get_or qs k p) ∷ drop n fs) more

-- the answers in the list, followed by those for the rest, are the answers for all tracks
abbrev pub InfosSoFar : List ℕ → List Found → ℕ → List TrackInfo → Type 0
InfosSoFar file fs number known =
    (more : List TrackInfo) → AreInfos file number (drop number fs) more → AreInfos file 0 fs (known ++ more)

pub one_more_info : (file : List ℕ) (boxes : List TreeBox) (places : List TrakPlace) (number : ℕ) (p : TrakPlace)
    (old new : List TrackInfo) (t : TrackInfo) → number < length places → new ≡ old ++ t ∷ []
    → IsInfo file number (found_at boxes (get_or places number p)) t
    → InfosSoFar file (map (found_at boxes) places) number old
    → InfosSoFar file (map (found_at boxes) places) (number + 1) new
one_more_info file boxes places number p old new t less items known so_far = λ more h.
    let fs = map (found_at boxes) places in
    with_more (λ (ts : List TrackInfo). AreInfos file 0 fs ts) old new (t ∷ []) more items
    (so_far (t ∷ more)
    (subst (λ (gs : List Found). AreInfos file number gs (t ∷ more)) (sym (from_place number boxes places p less))
    (known, h)))

-- nothing is left at the end
none_left : (number : ℕ) (boxes : List TreeBox) (places : List TrakPlace) → length places ≤ number
    → drop number (map (found_at boxes) places) ≡ []
none_left number boxes places past =
    let fs = map (found_at boxes) places in
    drop_of_length-le fs (omega (arith, length-map places (found_at boxes), past))

pub infos_all : (file : List ℕ) (boxes : List TreeBox) (places : List TrakPlace) (number : ℕ) (known : List TrackInfo)
    → length places ≤ number → InfosSoFar file (map (found_at boxes) places) number known
    → AreInfos file 0 (map (found_at boxes) places) known
infos_all file boxes places number known past h =
    subst (λ (ts : List TrackInfo). AreInfos file 0 (map (found_at boxes) places) ts) (append-nil known)
    (h [] (subst (λ (gs : List Found). AreInfos file number gs []) (sym (none_left number boxes places past)) tt))

-- the tracks before a number have another track_ID
abbrev pub OthersBefore : List ℕ → List Found → ℕ → ℕ → Type 0
OthersBefore file fs id number = first_with file id 0 fs ≡ first_with file id number (drop number fs)

-- the first track with a track_ID, by whether the next one has it
next_with : (file : List ℕ) (boxes : List TreeBox) (places : List TrakPlace) (number id : ℕ) (p : TrakPlace)
    (trak : List TreeBox) (has : Bool) → number < length places → trak ≡ drop (get_or places number p).first boxes
    → has ≡ has_id file id trak → OthersBefore file (map (found_at boxes) places) id number
    → first_with file id 0 (map (found_at boxes) places)
    ≡ (if has then Some number else first_with file id (number + 1) (drop (number + 1) (map (found_at boxes) places)))
next_with file boxes places number id p trak has less is known h =
    let same : has_id file id (drop (get_or places number p).first boxes) ≡ has =
    ap (λ (xs : List TreeBox). has_id file id xs) (sym is) ∙ sym known in
    h ∙ ap (λ (gs : List Found). first_with file id number gs) (from_place number boxes places p less)
    ∙ ap (λ (b : Bool). if b then Some number else first_with file id (number + 1) (drop (number + 1) (map (found_at
    boxes) places))) same

pub other_on : (file : List ℕ) (boxes : List TreeBox) (places : List TrakPlace) (number id : ℕ) (p : TrakPlace)
    (trak : List TreeBox) (has : Bool) → number < length places → trak ≡ drop (get_or places number p).first boxes
    → has ≡ false → has ≡ has_id file id trak → OthersBefore file (map (found_at boxes) places) id number
    → OthersBefore file (map (found_at boxes) places) id (number + 1)
other_on file boxes places number id p trak has less is other known h =
    next_with file boxes places number id p trak has less is known h ∙ rw other refl

pub this_one : (file : List ℕ) (boxes : List TreeBox) (places : List TrakPlace) (number id : ℕ) (p : TrakPlace)
    (trak : List TreeBox) (has : Bool) → number < length places → trak ≡ drop (get_or places number p).first boxes
    → has ≡ true → has ≡ has_id file id trak → OthersBefore file (map (found_at boxes) places) id number
    → Some number ≡ first_with file id 0 (map (found_at boxes) places)
this_one file boxes places number id p trak has less is own known h =
    sym (next_with file boxes places number id p trak has less is known h ∙ rw own refl)

-- none has it
pub no_one : (file : List ℕ) (boxes : List TreeBox) (places : List TrakPlace) (number id : ℕ)
    → length places ≤ number → OthersBefore file (map (found_at boxes) places) id number
    → None ≡ first_with file id 0 (map (found_at boxes) places)
no_one file boxes places number id past h =
    sym (h ∙ ap (λ (gs : List Found). first_with file id number gs) (none_left number boxes places past))
