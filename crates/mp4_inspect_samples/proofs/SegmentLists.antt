-- The rows of moofs, one after the other.
use Rattle.std.proofs.Common.{◌≡◌, ℕ, ◌+◌, ◌-◌, ◌^◌, ◌<◌, Bool, true, false, List, [], ◌∷◌, ◌++◌, None, Some, Result}
use Rattle.std.proofs.Common.{Err, length, map, min, refl, sym, ap, subst, ◌∙◌, append_assoc, append-nil, arith}
use Rattle.std.proofs.Common.{slice_index_or}
use Rattle.std.proofs.KnownBytes.{Appends-nil, Appends-trans}
use Rattle.std.specs.Io.KnownBytes.{Appends}
use Rattle.std.specs.declared.option.Option.{Option}
use Rattle.mp4_frame.specs.FourCC.{four_cc_of}
use Rattle.mp4_frame.specs.declared.codes.TheConstants as codes
use Rattle.mp4_movie.proofs.Levels.{next_in}
use Rattle.mp4_movie.specs.Levels.{Found, after_of, all_in, first_in}
use Rattle.mp4_movie.specs.Movies.{traks}
use Rattle.mp4_movie.specs.declared.error.BoxError.{BoxError}
use Rattle.mp4_movie.specs.declared.moof.MoofFragments.{MoofFragments}
use Rattle.mp4_movie.specs.declared.track_fragment.TrackFragment.{TrackFragment}
use Rattle.mp4_walk.specs.FileBoxes.{boxes_of}
use Rattle.mp4_walk.specs.declared.tree_box.TreeBox.{TreeBox}
use Rattle.mp4_inspect_samples.proofs.TimeLists.{time_at_append}
use Rattle.mp4_inspect_samples.specs.Rows.{end_text}
use Rattle.mp4_inspect_samples.specs.Samples.{AreParts, box_fault, movie_faults}
use Rattle.mp4_inspect_samples.specs.SegmentText.{names_text, segment_text}
use Rattle.mp4_inspect_samples.specs.Segments.{SegmentRule, WritesSegments, answer_faults, duration_of, first_of}
use Rattle.mp4_inspect_samples.specs.Segments.{fragments_in, last_end, moof_faults, moofs_of, rule_of, segment_at}
use Rattle.mp4_inspect_samples.specs.Segments.{segment_by, segment_size, segments_text, start_by, time_at, time_or}
use Rattle.mp4_inspect_samples.specs.Segments.{time_with, times_of}
use Rattle.mp4_inspect_samples.specs.declared.choice.Choice.{Choice}
use Rattle.mp4_inspect_samples.specs.declared.fault.TrackFault.{TrackFault}
use Rattle.mp4_inspect_samples.specs.declared.row_text.Form.{Form}
use Rattle.mp4_inspect_samples.specs.declared.samples_of_file.MovieParts.{MovieParts}
use Rattle.mp4_inspect_samples.specs.declared.segment_text.Segment.{Segment}
use Rattle.mp4_inspect_samples.specs.declared.track_times.TrackTime.{TrackTime}

-- ---- the bytes

-- an end above 2^64 - 1 counts as 2^64 - 1
pub end_capped : (end : ℕ) (fs : List Found)
    → min (last_end (min end (2 ^ 64 - 1)) fs) (2 ^ 64 - 1) ≡ min (last_end end fs) (2 ^ 64 - 1)
end_capped end [] = omega arith
end_capped end (f ∷ fs) = refl

-- ---- the row

-- a row depends only on the times of the track of its first fragment
pub segment_same : (number offset size : ℕ) (seconds : Bool) (a b : ℕ → TrackTime) (o : Option TrackFragment)
    → ((q : ℕ) → a q ≡ b q) → segment_by number offset size seconds a o ≡ segment_by number offset size seconds b o
segment_same number offset size seconds a b None same = refl
segment_same number offset size seconds a b (Some x) same =
    ap (λ (t : TrackTime). let s : Segment = record {
      number = number;
      offset = offset;
      size = size;
      track = Some x.header.track_id;
      start = start_by x.time t.end;
      duration = Some (duration_of x);
      clock = record { timescale = t.timescale; seconds = seconds };
    } in s) (same x.header.track_id)

-- the first traf is no fragment, or there is no traf
pub none_first : (answers : List (Result TrackFragment BoxError)) → length answers ≡ 0 → first_of answers ≡ None
none_first [] none = refl
none_first (r ∷ rs) none = absurd (omega (arith, none))

pub err_first : (answers : List (Result TrackFragment BoxError)) (r : Result TrackFragment BoxError) (e : BoxError)
    → 0 < length answers → r ≡ slice_index_or answers 0 r → r ≡ Err e → first_of answers ≡ None
err_first [] r e some is err = absurd (omega (arith, some))
err_first (x ∷ xs) r e some is err =
    ap (λ (a : Result TrackFragment BoxError). first_of (a ∷ xs)) (sym is ∙ err)

-- ---- the rows

-- the rows of the remaining moofs follow those of the moofs before them, at which the tracks have the times `now`
abbrev pub SegmentsSoFar : SegmentRule → (ℕ → TrackTime) → Bool → List Found → List MoofFragments → Option (List ℕ)
    → (ℕ → TrackTime) → Bool → ℕ → List Found → List MoofFragments → Option (List ℕ) → Type 0
SegmentsSoFar rule times follows fs ms old now between n rest left mid =
    (seen : List TrackFragment) × ((q : ℕ) → now q ≡ time_at q (times q) seen)
    × ((new : Option (List ℕ)) → Appends mid new (segments_text rule times between n seen rest left)
    → Appends old new (segments_text rule times follows 0 [] fs ms))

pub segments_start : (rule : SegmentRule) (times : ℕ → TrackTime) (follows : Bool) (fs : List Found)
    (ms left : List MoofFragments) (old : Option (List ℕ)) → left ≡ ms
    → SegmentsSoFar rule times follows fs ms old times follows 0 fs left old
segments_start rule times follows fs ms left old is = (
  [],
  λ q. refl,
  λ new w. subst (λ (ls : List MoofFragments). Appends old new (segments_text rule times follows 0 [] fs ls)) is w,
)

pub segments_next : (rule : SegmentRule) (times : ℕ → TrackTime) (follows : Bool) (fs : List Found)
    (ms : List MoofFragments) (old : Option (List ℕ)) (now next : ℕ → TrackTime) (between after : Bool) (n number : ℕ)
    (rest : List TreeBox) (left more : List MoofFragments) (mid mid2 : Option (List ℕ)) (form : Form) (x : Found)
    (m : MoofFragments)
    → Some x ≡ first_in 0 (four_cc_of codes.MOOF) rest → left ≡ m ∷ more → number ≡ n + 1 → form ≡ rule.form
    → after ≡ true → Appends mid mid2 (segment_text form between (segment_at rule now number x m))
    → ((q : ℕ) → next q ≡ time_at q (now q) (fragments_in m.fragments.items))
    → SegmentsSoFar rule times follows fs ms old now between n (all_in 0 (four_cc_of codes.MOOF) rest) left mid
    → SegmentsSoFar rule times follows fs ms old next after number (all_in 0 (four_cc_of codes.MOOF) x.after) more mid2
segments_next rule times follows fs ms old now next between after n number rest left more mid mid2 form x m is cut
    counted of later row entered known =
    let code = four_cc_of codes.MOOF in
    let seen = known.0 in
    let own = fragments_in m.fragments.items in (
      seen ++ own,
      λ q.
          entered q ∙ ap (λ (t : TrackTime). time_at q t own) (known.1 q) ∙ sym (time_at_append q (times q) seen own),
      λ new w.
          let all : all_in 0 code rest ≡ x ∷ all_in 0 code x.after = next_in 0 code rest (Some x) is in
          let is_one : Appends mid mid2 (segment_text rule.form between
          (segment_at rule (λ (q : ℕ). time_at q (times q) seen) (n + 1) x m)) =
          subst (λ (s : Segment). Appends mid mid2 (segment_text rule.form between s))
          (segment_same (n + 1) x.box.position (segment_size rule.length x) rule.seconds now
          (λ (q : ℕ). time_at q (times q) seen) (first_of m.fragments.items) known.1)
          (subst (λ (j : ℕ). Appends mid mid2 (segment_text rule.form between (segment_at rule now j x m))) counted
          (subst (λ (f : Form). Appends mid mid2 (segment_text f between (segment_at rule now number x m))) of row)) in
          let others : Appends mid2 new (segments_text rule times true (n + 1) (seen ++ own) (all_in 0 code x.after)
          more) =
          subst (λ (j : ℕ). Appends mid2 new (segments_text rule times true j (seen ++ own) (all_in 0 code x.after)
          more))
          counted
          (subst (λ (b : Bool). Appends mid2 new
          (segments_text rule times b number (seen ++ own) (all_in 0 code x.after) more)) later w) in
          known.2 new
          (subst (λ (gs : List Found). Appends mid new (segments_text rule times between n seen gs left)) (sym all)
          (subst (λ (ls : List MoofFragments). Appends mid new
          (segments_text rule times between n seen (x ∷ all_in 0 code x.after) ls)) (sym cut)
          (Appends-trans mid mid2 new _ _ is_one others))),
    )

no_rows_left : (rule : SegmentRule) (times : ℕ → TrackTime) (follows : Bool) (n : ℕ) (seen : List TrackFragment)
    (fs : List Found) → segments_text rule times follows n seen fs [] ≡ []
no_rows_left rule times follows n seen [] = refl
no_rows_left rule times follows n seen (f ∷ fs) = refl

pub segments_answered : (rule : SegmentRule) (times : ℕ → TrackTime) (follows : Bool) (fs : List Found)
    (ms : List MoofFragments) (old : Option (List ℕ)) (now : ℕ → TrackTime) (between : Bool) (n : ℕ) (rest : List Found)
    (left : List MoofFragments) (mid : Option (List ℕ)) → left ≡ []
    → SegmentsSoFar rule times follows fs ms old now between n rest left mid
    → Appends old mid (segments_text rule times follows 0 [] fs ms)
segments_answered rule times follows fs ms old now between n rest left mid none known =
    known.2 mid
    (subst (λ (ls : List MoofFragments). Appends mid mid (segments_text rule times between n known.0 rest ls)) (sym
    none)
    (subst (λ (t : List ℕ). Appends mid mid t) (sym (no_rows_left rule times between n known.0 rest)) (Appends-nil
    mid)))

pub segments_end : (rule : SegmentRule) (times : ℕ → TrackTime) (follows : Bool) (fs : List Found)
    (ms : List MoofFragments) (old : Option (List ℕ)) (now : ℕ → TrackTime) (between : Bool) (n : ℕ)
    (rest : List TreeBox) (left : List MoofFragments) (mid : Option (List ℕ))
    → None ≡ first_in 0 (four_cc_of codes.MOOF) rest
    → SegmentsSoFar rule times follows fs ms old now between n (all_in 0 (four_cc_of codes.MOOF) rest) left mid
    → Appends old mid (segments_text rule times follows 0 [] fs ms)
segments_end rule times follows fs ms old now between n rest left mid is known =
    known.2 mid
    (subst (λ (gs : List Found). Appends mid mid (segments_text rule times between n known.0 gs left))
    (sym (next_in 0 (four_cc_of codes.MOOF) rest None is)) (Appends-nil mid))

-- ---- the faults

-- the faults of the remaining moofs follow those of the moofs before them
abbrev pub FaultsSoFar : List TrackFault → List Found → List MoofFragments → List TrackFault → List TreeBox
    → List MoofFragments → Type 0
FaultsSoFar before fs ms now rest left =
    now ++ moof_faults (all_in 0 (four_cc_of codes.MOOF) rest) left ≡ before ++ moof_faults fs ms

pub faults_next : (before now next : List TrackFault) (fs : List Found) (ms : List MoofFragments) (rest : List TreeBox)
    (left more : List MoofFragments) (x : Found) (m : MoofFragments) → Some x ≡ first_in 0 (four_cc_of codes.MOOF) rest
    → left ≡ m ∷ more → next ≡ now ++ answer_faults m.position m.fragments.items
    → FaultsSoFar before fs ms now rest left → FaultsSoFar before fs ms next x.after more
faults_next before now next fs ms rest left more x m is cut told known =
    let code = four_cc_of codes.MOOF in
    let own = answer_faults m.position m.fragments.items in
    let others = moof_faults (all_in 0 code x.after) more in
    ap (λ (ts : List TrackFault). ts ++ others) told ∙ append_assoc now own others
    ∙ ap (λ (ls : List MoofFragments). now ++ moof_faults (x ∷ all_in 0 code x.after) ls) (sym cut)
    ∙ ap (λ (gs : List Found). now ++ moof_faults gs left) (sym (next_in 0 code rest (Some x) is)) ∙ known

no_faults_left : (fs : List Found) → moof_faults fs [] ≡ []
no_faults_left [] = refl
no_faults_left (f ∷ fs) = refl

pub faults_answered : (before now : List TrackFault) (fs : List Found) (ms : List MoofFragments) (rest : List TreeBox)
    (left : List MoofFragments) → left ≡ [] → FaultsSoFar before fs ms now rest left
    → now ≡ before ++ moof_faults fs ms
faults_answered before now fs ms rest left none known =
    let gs = all_in 0 (four_cc_of codes.MOOF) rest in
    sym (append-nil now) ∙ ap (λ (ts : List TrackFault). now ++ ts) (sym (no_faults_left gs))
    ∙ ap (λ (ls : List MoofFragments). now ++ moof_faults gs ls) (sym none) ∙ known

pub faults_end : (before now : List TrackFault) (fs : List Found) (ms : List MoofFragments) (rest : List TreeBox)
    (left : List MoofFragments) → None ≡ first_in 0 (four_cc_of codes.MOOF) rest
    → FaultsSoFar before fs ms now rest left → now ≡ before ++ moof_faults fs ms
faults_end before now fs ms rest left is known =
    sym (append-nil now)
    ∙ ap (λ (gs : List Found). now ++ moof_faults gs left) (sym (next_in 0 (four_cc_of codes.MOOF) rest None is)) ∙
    known

-- ---- the file

-- rows depend only on the times of tracks
texts_same : (rule : SegmentRule) (a b : ℕ → TrackTime) → ((q : ℕ) → a q ≡ b q) → (follows : Bool) (n : ℕ)
    (seen : List TrackFragment) (fs : List Found) (ms : List MoofFragments)
    → segments_text rule a follows n seen fs ms ≡ segments_text rule b follows n seen fs ms
texts_same rule a b same follows n seen [] ms = refl
texts_same rule a b same follows n seen (f ∷ fs) [] = refl
texts_same rule a b same follows n seen (f ∷ fs) (m ∷ ms) =
    let own = fragments_in m.fragments.items in
    ap (λ (s : Segment). segment_text rule.form follows s ++ segments_text rule a true (n + 1) (seen ++ own) fs ms)
    (segment_same (n + 1) f.box.position (segment_size rule.length f) rule.seconds
    (λ (q : ℕ). time_at q (a q) seen) (λ (q : ℕ). time_at q (b q) seen) (first_of m.fragments.items)
    (λ q. ap (λ (t : TrackTime). time_at q t seen) (same q)))
    ∙ ap (λ (t : List ℕ).
    segment_text rule.form follows (segment_at rule (λ (q : ℕ). time_at q (b q) seen) (n + 1) f m) ++ t)
    (texts_same rule a b same true (n + 1) (seen ++ own) fs ms)

-- The boxes of the file are given as `boxes`, and those inside the moov as `movie`.
pub file_segments : (choice : Choice) (file : List ℕ) (boxes movie : List TreeBox) (parts : MovieParts)
    (old begun written new : Option (List ℕ)) (before one two three : List TrackFault)
    (stored : ℕ → Option TrackTime) (form : Form) (follows : Bool) (count : ℕ)
    → boxes ≡ boxes_of file → movie ≡ after_of (first_in 0 (four_cc_of codes.MOOV) boxes) → AreParts file parts
    → one ≡ before ++ map box_fault parts.errors.items
    → ((q : ℕ) → stored q ≡ time_with file q (all_in 1 (four_cc_of codes.TRAK) movie))
    → form ≡ choice.form → follows ≡ false → count ≡ length file
    → Appends old begun (names_text choice.form)
    → Appends begun written (segments_text (record { form = form; seconds = choice.seconds; length = count })
    (λ (q : ℕ). time_or (stored q)) follows 0 [] (all_in 0 (four_cc_of codes.MOOF) boxes) parts.moofs.items)
    → two ≡ one ++ moof_faults (all_in 0 (four_cc_of codes.MOOF) boxes) parts.moofs.items
    → three ≡ two ++ movie_faults boxes
    → Appends written new (end_text choice.form)
    → WritesSegments choice file old new before three
file_segments choice file boxes movie parts old begun written new before one two three stored form follows count same
    inner are h1 times forms first counted names rows h2 h3 end =
    let code = four_cc_of codes.MOOF in
    let moofs = parts.moofs.items in
    let known : (q : ℕ) → time_or (stored q) ≡ times_of file q = λ q.
    ap time_or (times q
    ∙ ap (λ (bs : List TreeBox). time_with file q (all_in 1 (four_cc_of codes.TRAK) bs)) inner
    ∙ ap (λ (bs : List TreeBox). time_with file q (traks bs)) same) in
    let is_text : Appends begun written (segments_text (rule_of choice file) (times_of file) false 0 [] (moofs_of file)
    moofs) =
    subst (λ (t : List ℕ). Appends begun written t)
    (texts_same (rule_of choice file) (λ (q : ℕ). time_or (stored q)) (times_of file) known false 0 [] (moofs_of file)
    moofs)
    (subst (λ (bs : List TreeBox). Appends begun written (segments_text (rule_of choice file)
    (λ (q : ℕ). time_or (stored q)) false 0 [] (all_in 0 code bs) moofs)) same
    (subst (λ (j : ℕ). Appends begun written (segments_text (record {
      form = choice.form;
      seconds = choice.seconds;
      length = j;
    }) (λ (q : ℕ). time_or (stored q)) false 0 [] (all_in 0 code boxes) moofs)) counted
    (subst (λ (b : Bool). Appends begun written (segments_text (record {
      form = choice.form;
      seconds = choice.seconds;
      length = count;
    }) (λ (q : ℕ). time_or (stored q)) b 0 [] (all_in 0 code boxes) moofs)) first
    (subst (λ (f : Form). Appends begun written (segments_text (record {
      form = f;
      seconds = choice.seconds;
      length = count;
    }) (λ (q : ℕ). time_or (stored q)) follows 0 [] (all_in 0 code boxes) moofs)) forms rows)))) in
    let errors = map box_fault parts.errors.items in
    let own = moof_faults (all_in 0 code boxes) moofs in
    record {
      parts = parts;
      are = are;
      bytes = Appends-trans old begun new (names_text choice.form) _ names
          (Appends-trans begun written new _ (end_text choice.form) is_text end);
      faults_are = h3
          ∙ ap (λ (ts : List TrackFault). ts ++ movie_faults boxes) h2 ∙ append_assoc one own (movie_faults boxes)
          ∙ ap (λ (ts : List TrackFault). ts ++ (own ++ movie_faults boxes)) h1
          ∙ append_assoc before errors (own ++ movie_faults boxes)
          ∙ ap (λ (bs : List TreeBox).
          before ++ (errors ++ (moof_faults (all_in 0 code bs) moofs ++ movie_faults bs))) same;
    }
