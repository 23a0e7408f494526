-- The times of tracks, one track after the other.
use Rattle.std.proofs.Common.{◌≡◌, ℕ, Bool, false, List, [], ◌∷◌, ◌++◌, None, Some, Result, Ok, Err, refl, sym}
use Rattle.std.proofs.Common.{ap}
use Rattle.std.proofs.Common.{subst, ◌∙◌, ◌+◌}
use Rattle.std.specs.Option.{option_or}
use Rattle.std.specs.Prelude.{◌==◌, if◌then◌else◌}
use Rattle.std.specs.declared.option.Option.{Option}
use Rattle.mp4_frame.specs.FourCC.{four_cc_of}
use Rattle.mp4_frame.specs.declared.codes.TheConstants as codes
use Rattle.mp4_movie.proofs.Levels.{next_in}
use Rattle.mp4_movie.specs.Infos.{AreInfos, IsInfo}
use Rattle.mp4_movie.specs.Levels.{Found, all_in, first_in}
use Rattle.mp4_movie.specs.Movies.{is_id, samples_of, timescale, track_id}
use Rattle.mp4_movie.specs.Problems.{Problem}
use Rattle.mp4_movie.specs.declared.error.BoxError.{BoxError}
use Rattle.mp4_movie.specs.declared.info.TrackInfo.{TrackInfo}
use Rattle.mp4_movie.specs.declared.track_fragment.TrackFragment.{TrackFragment}
use Rattle.mp4_walk.specs.declared.tree_box.TreeBox.{TreeBox}
use Rattle.mp4_inspect_samples.specs.Segments.{end_known, fragments_in, known, time_after, time_at, time_if, time_in}
use Rattle.mp4_inspect_samples.specs.Segments.{time_with}
use Rattle.mp4_inspect_samples.specs.declared.track_times.TrackTime.{TrackTime}

or_none : (o : Option TrackTime) → option_or o None ≡ o
or_none None = refl
or_none (Some t) = refl

or_assoc : (a b c : Option TrackTime) → option_or (option_or a b) c ≡ option_or a (option_or b c)
or_assoc None b c = refl
or_assoc (Some t) b c = refl

-- ---- one track

no_id : (q : ℕ) (r : Result ℕ Problem) → None ≡ known r → is_id q r ≡ false
no_id q (Ok v) is = absurd cc
no_id q (Err p) is = refl

same_id : (q id : ℕ) (r : Result ℕ Problem) → Some id ≡ known r → is_id q r ≡ (id == q)
same_id q id (Ok v) is = let same : id ≡ v = cc in ap (λ (n : ℕ). n == q) (sym same)
same_id q id (Err p) is = absurd cc

-- a track whose track_ID can't be read has no times
pub time_unknown : (file : List ℕ) (f : Found) (o : Option TrackTime) (q : ℕ) → None ≡ known (track_id file f.after)
    → o ≡ option_or o (time_if file q f)
time_unknown file f o q is =
    sym (or_none o)
    ∙ ap (λ (b : Bool). option_or o (if b then Some (time_in file f) else None)) (sym (no_id q (track_id file f.after)
    is))

-- the times of a track with this track_ID
pub time_known : (file : List ℕ) (f : Found) (id : ℕ) (t : TrackTime) (o p : Option TrackTime) (q : ℕ)
    → Some id ≡ known (track_id file f.after) → t ≡ time_in file f
    → p ≡ option_or o (if id == q then Some t else None) → p ≡ option_or o (time_if file q f)
time_known file f id t o p q is same stored =
    stored
    ∙ ap (λ (u : TrackTime). option_or o (if id == q then Some u else None)) same
    ∙ ap (λ (b : Bool). option_or o (if b then Some (time_in file f) else None))
    (sym (same_id q id (track_id file f.after) is))

-- the times that are read of a track
pub time_made : (file : List ℕ) (f : Found) (trak : List TreeBox) (t : TrackTime)
    → t.timescale ≡ known (timescale file f.after) → t.end ≡ end_known (samples_of file trak) → f.after ≡ trak
    → t ≡ time_in file f
time_made file f trak t scale end same =
    ap (λ (s : Option ℕ). let u : TrackTime = record { timescale = s; end = t.end } in u) scale
    ∙ ap (λ (e : Option ℕ). let u : TrackTime = record { timescale = known (timescale file f.after); end = e } in u)
    (end ∙ ap (λ (bs : List TreeBox). end_known (samples_of file bs)) (sym same))

-- ---- the tracks

-- the times of a track are the stored ones, or those of the tracks that are left
abbrev pub TimesSoFar : List ℕ → List TreeBox → (ℕ → Option TrackTime) → List TreeBox → List TrackInfo → Type 0
TimesSoFar file movie stored rest left =
    (number : ℕ) × AreInfos file number (all_in 1 (four_cc_of codes.TRAK) rest) left
    × ((q : ℕ) → option_or (stored q) (time_with file q (all_in 1 (four_cc_of codes.TRAK) rest))
    ≡ time_with file q (all_in 1 (four_cc_of codes.TRAK) movie))

pub times_start : (file : List ℕ) (movie : List TreeBox) (stored : ℕ → Option TrackTime) (infos left : List TrackInfo)
    → ((q : ℕ) → stored q ≡ None) → left ≡ infos → AreInfos file 0 (all_in 1 (four_cc_of codes.TRAK) movie) infos
    → TimesSoFar file movie stored movie left
times_start file movie stored infos left none is are =
    let fs = all_in 1 (four_cc_of codes.TRAK) movie in (
      0,
      subst (λ (ts : List TrackInfo). AreInfos file 0 fs ts) (sym is) are,
      λ q. ap (λ (o : Option TrackTime). option_or o (time_with file q fs)) (none q),
    )

pub times_next : (file : List ℕ) (movie rest : List TreeBox) (stored next : ℕ → Option TrackTime)
    (left more : List TrackInfo) (info : TrackInfo) (x : Found) → Some x ≡ first_in 1 (four_cc_of codes.TRAK) rest
    → left ≡ info ∷ more
    → ((number : ℕ) (f : Found) → f.after ≡ x.after → IsInfo file number f info
    → (q : ℕ) → next q ≡ option_or (stored q) (time_if file q f))
    → TimesSoFar file movie stored rest left → TimesSoFar file movie next x.after more
times_next file movie rest stored next left more info x is cut step known =
    let code = four_cc_of codes.TRAK in
    let all : all_in 1 code rest ≡ x ∷ all_in 1 code x.after = next_in 1 code rest (Some x) is in
    let are : AreInfos file known.0 (x ∷ all_in 1 code x.after) (info ∷ more) =
    subst (λ (fs : List Found). AreInfos file known.0 fs (info ∷ more)) all
    (subst (λ (ts : List TrackInfo). AreInfos file known.0 (all_in 1 code rest) ts) cut known.1) in (
      known.0 + 1,
      are.1,
      λ q.
          let others = time_with file q (all_in 1 code x.after) in
          ap (λ (o : Option TrackTime). option_or o others) (step known.0 x refl are.0 q)
          ∙ or_assoc (stored q) (time_if file q x) others
          ∙ ap (λ (fs : List Found). option_or (stored q) (time_with file q fs)) (sym all)
          ∙ known.2 q,
    )

no_tracks : (file : List ℕ) (number : ℕ) (fs : List Found) → AreInfos file number fs [] → fs ≡ []
no_tracks file number [] are = refl
no_tracks file number (f ∷ fs) are = absurd are

pub times_answered : (file : List ℕ) (movie rest : List TreeBox) (stored : ℕ → Option TrackTime) (left : List TrackInfo)
    → left ≡ [] → TimesSoFar file movie stored rest left
    → (q : ℕ) → stored q ≡ time_with file q (all_in 1 (four_cc_of codes.TRAK) movie)
times_answered file movie rest stored left none known = λ q.
    let fs = all_in 1 (four_cc_of codes.TRAK) rest in
    let no : fs ≡ [] = no_tracks file known.0 fs (subst (λ (ts : List TrackInfo). AreInfos file known.0 fs ts) none
    known.1) in
    sym (or_none (stored q))
    ∙ ap (λ (gs : List Found). option_or (stored q) (time_with file q gs)) (sym no) ∙ known.2 q

pub times_end : (file : List ℕ) (movie rest : List TreeBox) (stored : ℕ → Option TrackTime) (left : List TrackInfo)
    → None ≡ first_in 1 (four_cc_of codes.TRAK) rest → TimesSoFar file movie stored rest left
    → (q : ℕ) → stored q ≡ time_with file q (all_in 1 (four_cc_of codes.TRAK) movie)
times_end file movie rest stored left is known = λ q.
    let no = next_in 1 (four_cc_of codes.TRAK) rest None is in
    sym (or_none (stored q))
    ∙ ap (λ (gs : List Found). option_or (stored q) (time_with file q gs)) (sym no) ∙ known.2 q

-- ---- the fragments

pub time_at_append : (q : ℕ) (t : TrackTime) (xs ys : List TrackFragment)
    → time_at q t (xs ++ ys) ≡ time_at q (time_at q t xs) ys
time_at_append q t [] ys = refl
time_at_append q t (x ∷ xs) ys = time_at_append q (time_after q t x) xs ys

-- the times after the first answer, and then after the others
pub one_answer : (q : ℕ) (t : TrackTime) (r : Result TrackFragment BoxError) (rest : List (Result TrackFragment
    BoxError))
    → time_at q (time_at q t (fragments_in (r ∷ []))) (fragments_in rest) ≡ time_at q t (fragments_in (r ∷ rest))
one_answer q t (Ok x) rest = refl
one_answer q t (Err e) rest = refl
