-- The tracks of a file and of a part of it, by their numbers.
use Rattle.std.proofs.Common.{◌≡◌, ℕ, ◌+◌, ◌-◌, ◌<◌, ◌≤◌, List, [], ◌∷◌, length, get_or, None, Some, Result, Ok}
use Rattle.std.proofs.Common.{Err, inl, inr}
use Rattle.std.proofs.Common.{refl, sym, ap, subst, ◌∙◌, below_more, arith, take, drop}
use Rattle.std.specs.Prelude.{IfOk, IfSome, ◌⊎◌}
use Rattle.std.specs.declared.option.Option.{Option}
use Rattle.std.proofs.lemmas.Bool.{cases_eq}
use Rattle.std.proofs.lemmas.List.{get_or_read_under}
use Rattle.mp4_frame.specs.FourCC.{four_cc_of}
use Rattle.mp4_frame.specs.declared.codes.TheConstants as codes
use Rattle.mp4_frame.specs.declared.four_cc.FourCC.{FourCC}
use Rattle.mp4_movie.specs.Descriptions.{descriptions_of}
use Rattle.mp4_movie.specs.Infos.{AreInfos}
use Rattle.mp4_movie.specs.Movies.{handler, samples_of, timescale, track_id, traks}
use Rattle.mp4_movie.specs.Problems.{Problem, Records}
use Rattle.mp4_movie.specs.declared.error.BoxError.{BoxError}
use Rattle.mp4_movie.specs.declared.info.TrackInfo.{TrackInfo}
use Rattle.mp4_movie.specs.declared.sample_boxes.SampleBoxes.{SampleBoxes}
use Rattle.mp4_movie.specs.declared.track_fragment.TrackFragment.{TrackFragment}
use Rattle.mp4_samples.specs.declared.sample.Sample.{Sample}
use Rattle.mp4_walk.specs.FileBoxes.{boxes_of}
use Rattle.mp4_remux.proofs.BothFiles.{IfInfos, info_at, infos_counted, recorded, teller}
use Rattle.mp4_remux.proofs.Bytes.{old_bytes, same_bytes}
use Rattle.mp4_remux.specs.Carried.{IsTellerOf, SameHeaders}
use Rattle.mp4_remux.specs.CarriedParts.{CarriesRun, CarriesRunBoxes, CarriesSpan, IsFirstVideo, IsLastIn, IsLastWith}
use Rattle.mp4_remux.specs.CarriedParts.{IsLineIn, IsVideoInfo, StartsIn, run_of}
use Rattle.mp4_remux.specs.Groups.{in_group}
use Rattle.mp4_remux.specs.Kept.{IsCarried, KeepsSample, KeepsSamples}
use Rattle.mp4_remux.specs.Parts.{IsInRun, IsLast, IsLine, IsVideo, KeepsEarlier, KeepsPart, KeepsRun, Starts, earlier}
use Rattle.mp4_remux.specs.Parts.{end_number, first_number, moment_of, nanoseconds, run_count}
use Rattle.mp4_remux.specs.Pieces.{AreWithin, spelled}
use Rattle.mp4_remux.specs.Told.{AreFragmentsOf, IsTold, at_track, count}
use Rattle.mp4_remux.specs.Whole.{IsSame, SameAnswer, track_count}
use Rattle.mp4_remux.specs.declared.groups.Groups.{Groups}
use Rattle.mp4_remux.specs.declared.parts.bound.Bound.{Bound}
use Rattle.mp4_remux.specs.declared.parts.bound.Bound.TheVariants.{From, To}
use Rattle.mp4_remux.specs.declared.parts.bound.Line.{Line}
use Rattle.mp4_remux.specs.declared.parts.bound.Moment.{Moment}
use Rattle.mp4_remux.specs.declared.parts.last.Place.{Place}
use Rattle.mp4_remux.specs.declared.parts.part.Part.{Part}
use Rattle.mp4_remux.specs.declared.parts.run.PartTeller.{PartTeller}
use Rattle.mp4_remux.specs.declared.pieces.piece.Piece.{Piece}
use Rattle.mp4_remux.specs.declared.teller.Teller.{Teller}

-- a sample is the same in both files if its bytes come from there
is_same : (B C : List ℕ) (ps : List Piece) (a b : Sample) → AreWithin (length B) ps → C ≡ spelled B ps
    → IsCarried ps a b → IsSame B C a b
is_same B C ps a b within spells carried = record {
  alike = carried.alike;
  within = elim (cases_eq a.size 0) [
    | inl none ↦ inl none
    | inr some ↦ inr (old_bytes (length B) ps b.offset a.size a.offset within (omega arith) carried.bytes)
  ];
  bytes = ap (λ (x : ℕ). take x (drop b.offset C)) carried.alike.size
      ∙ ap (λ (xs : List ℕ). take a.size (drop b.offset xs)) spells
      ∙ same_bytes B ps b.offset a.size a.offset within carried.bytes;
}

-- a sample of the run
earlier_sample : (B C : List ℕ) (ps : List Piece) (m n : Teller) (first last : Option Place) (d k : ℕ)
    → AreWithin (length B) ps → C ≡ spelled B ps
    → KeepsSample IsInRun run_count IsTold count ps (run_of m first last d) n k
    → KeepsEarlier B C m n d (first_number first + k) k
earlier_sample B C ps m n first last d k within spells here =
    let run = here.is_before in
    let carried : IsCarried ps (earlier d run.old) here.after =
    subst (λ (x : Sample). IsCarried ps x here.after) run.is here.carried in
    record {
      before = run.old;
      after = here.after;
      is_before = run.is_old;
      is_after = here.is_after;
      late = run.late;
      same = is_same B C ps (earlier d run.old) here.after within spells carried;
    }

-- the boxes of a track in both files
pub with_run_boxes : (r s r' s' : Option (List ℕ)) (ps : List Piece) (l : Line) (m t : Moment) (n : ℕ)
    (v w : Option SampleBoxes) (fs gs : List TrackFragment) → r' ≡ r → s' ≡ s
    → IfSome r (λ B. IfSome s (λ C. SameAnswer descriptions_of B C n)) → IfSome r' (λ B. at_track samples_of B n ≡ Ok v)
    → IfSome s' (λ C. at_track samples_of C n ≡ Ok w) → CarriesRun ps l m t v w fs gs
    → IfSome r (λ B. IfSome s (λ C. CarriesRunBoxes ps l m t B C n fs gs))
with_run_boxes None s r' s' ps l m t n v w fs gs one two stsd a b run = tt
with_run_boxes (Some B) None r' s' ps l m t n v w fs gs one two stsd a b run = tt
with_run_boxes (Some B) (Some C) r' s' ps l m t n v w fs gs one two stsd a b run = record {
  stsd = stsd;
  were = v;
  are = w;
  is_were = subst (λ (o : Option (List ℕ)). IfSome o (λ B. at_track samples_of B n ≡ Ok v)) one a;
  is_are = subst (λ (o : Option (List ℕ)). IfSome o (λ C. at_track samples_of C n ≡ Ok w)) two b;
  run = run;
}

-- the last sample of a track, by the tables of a file
pub last_in_file : {E : Type 0} (o : Option (List ℕ)) (n : ℕ) (v : Option SampleBoxes) (fs : List TrackFragment)
    (l : Line) (b : Bound) (r : Result (Option Place) E) → IfSome o (λ B. at_track samples_of B n ≡ Ok v)
    → IfOk r (IsLastIn v fs l b) → IfOk r (λ p. IfSome o (λ B. IsLastWith B n fs l b p))
last_in_file o n v fs l b (Err e) is_v last = tt
last_in_file None n v fs l b (Ok p) is_v last = tt
last_in_file (Some B) n v fs l b (Ok p) is_v last = record { were = v; is_were = is_v; is_last = last }

-- the default of an index into tracks
abbrev pub no_info : TrackInfo
no_info = record {
  number = 0;
  position = 0;
  track_id = Ok 0;
  timescale = Ok 0;
  handler = Ok (record { value = [] });
}

-- the start of the run of the first video
pub starts_in : (o : Option (List ℕ)) (p : Part) (ts : List TrackInfo) (groups : Groups) (m : Moment) (v id : ℕ)
    (l : Line) (t : TrackInfo) (place : Place) (fs : List TrackFragment) → IsFirstVideo ts v
    → t ≡ get_or ts v t → IsLineIn p t v l → t.track_id ≡ Ok id → fs ≡ in_group groups id
    → IfSome o (λ B. IsLastWith B v fs l (From (nanoseconds p.from)) (Some place)) → m ≡ moment_of l place.sample
    → IfSome o (λ B. StartsIn p ts groups B m)
starts_in None p ts groups m v id l t place fs first is line is_id of last moment = tt
starts_in (Some B) p ts groups m v id l t place fs first is line is_id of last moment =
    let other : (u : TrackInfo) → t ≡ get_or ts v u = λ u.
    get_or_read_under ts v (length ts) t u is first.counted refl in
    record {
      video = v;
      is_first = first;
      line = l;
      is_line = λ u. subst (λ (x : TrackInfo). IsLineIn p x v l) (other u) line;
      id = id;
      is_id = λ u. subst (λ (x : TrackInfo). x.track_id ≡ Ok id) (other u) is_id;
      place = place;
      is_last = subst (λ (xs : List TrackFragment). IsLastWith B v xs l (From (nanoseconds p.from)) (Some place)) of
          last;
      moment = moment;
    }

-- the same of a moment that is computed
pub if_starts : {E : Type 0} (r : Result Moment E) (o : Option (List ℕ)) (p : Part) (ts : List TrackInfo)
    (groups : Groups) (v id : ℕ) (l : Line) (t : TrackInfo) (place : Place) (fs : List TrackFragment)
    → IsFirstVideo ts v → t ≡ get_or ts v t → IsLineIn p t v l → t.track_id ≡ Ok id → fs ≡ in_group groups id
    → IfSome o (λ B. IsLastWith B v fs l (From (nanoseconds p.from)) (Some place))
    → IfOk r (λ m. m ≡ moment_of l place.sample) → IfOk r (λ m. IfSome o (λ B. StartsIn p ts groups B m))
if_starts (Err e) o p ts groups v id l t place fs first is line is_id of last moment = tt
if_starts (Ok m) o p ts groups v id l t place fs first is line is_id of last moment =
    starts_in o p ts groups m v id l t place fs first is line is_id of last moment

-- one more track is no video
pub no_video_more : (ts : List TrackInfo) (n : ℕ) (x : TrackInfo) → n < length ts → x ≡ get_or ts n x
    → ¬ IsVideoInfo x → ((k : ℕ) (t : TrackInfo) → k < n → ¬ IsVideoInfo (get_or ts k t)) → (k : ℕ) (t : TrackInfo)
    → k < n + 1 → ¬ IsVideoInfo (get_or ts k t)
no_video_more ts n x less is not none k t lt =
    let same : x ≡ get_or ts n t = get_or_read_under ts n (length ts) x t is less refl in
    below_more (λ (j : ℕ). ¬ IsVideoInfo (get_or ts j t)) n (λ j under. none j t under)
    (λ video. not (subst IsVideoInfo (sym same) video)) k lt

-- the first video
pub first_video_at : (ts : List TrackInfo) (n : ℕ) (x : TrackInfo) → n < length ts → x ≡ get_or ts n x → IsVideoInfo x
    → ((k : ℕ) (t : TrackInfo) → k < n → ¬ IsVideoInfo (get_or ts k t)) → IsFirstVideo ts n
first_video_at ts n x less is video none = record {
  counted = less;
  is_video = λ t. subst IsVideoInfo (get_or_read_under ts n (length ts) x t is less refl) video;
  first = none;
}

-- the samples of a run are kept
pub span_of : (ps : List Piece) (first last : Option Place) (v w : Option SampleBoxes) (fs gs : List TrackFragment)
    (m n : Teller) (b e d l : ℕ) (r : PartTeller) → IsTellerOf v fs m → IsTellerOf w gs n → b ≡ first_number first
    → e ≡ end_number last → l ≡ e - b → r ≡ record { teller = m; first = b; length = l; shift = d }
    → KeepsSamples IsInRun run_count IsTold count ps r n → CarriesSpan ps first last v w fs gs
span_of ps first last v w fs gs m n b e d l r is_m is_n begins ends long is keeps =
    let lengths : l ≡ end_number last - first_number first = long ∙ ap (λ (x : ℕ). x - b) ends
    ∙ ap (λ (x : ℕ). end_number last - x) begins in
    let same : r ≡ run_of m first last d = is
    ∙ ap (λ (x : ℕ). let run : PartTeller = record { teller = m; first = x; length = l; shift = d } in run) begins
    ∙ ap (λ (x : ℕ). let run : PartTeller = record { teller = m; first = first_number first; length = x; shift = d } in
    run) lengths in
    record {
      before = m;
      after = n;
      is_before = is_m;
      is_after = is_n;
      earlier_by = d;
      keeps = subst (λ (x : PartTeller). KeepsSamples IsInRun run_count IsTold count ps x n) same keeps;
    }

-- the last sample of a track, by its tables and fragments
last_at : (B : List ℕ) (n id : ℕ) (v : Option SampleBoxes) (fs : List TrackFragment) (l : Line) (b : Bound)
    (r : Option Place) → at_track track_id B n ≡ Ok id → at_track samples_of B n ≡ Ok v → AreFragmentsOf B id fs
    → IsLastIn v fs l b r → IsLast B n l b r
last_at B n id v fs l b r is_id is_v are last = (last.0, teller B n id v fs last.0 is_id is_v are last.1, last.2)

line_at : (p : Part) (B : List ℕ) (n : ℕ) (t : TrackInfo) (l : Line) → Records t.timescale (at_track timescale B n)
    → IsLineIn p t n l → IsLine p B n l
line_at p B n t l records is = record {
  scale = recorded t.timescale l.scale (at_track timescale B n) is.scale records;
  origin = is.origin;
}

run_at : (p : Part) (m : Moment) (ps : List Piece) (B C : List ℕ) (n id : ℕ) (l : Line) (ts us : List TrackInfo)
    (t u : TrackInfo) (fs gs : List TrackFragment) → n < length ts → n < length us
    → AreInfos B 0 (traks (boxes_of B)) ts → AreInfos C 0 (traks (boxes_of C)) us
    → SameHeaders (get_or ts n t) (get_or us n u) id → IsLineIn p (get_or ts n t) n l → AreFragmentsOf B id fs
    → AreFragmentsOf C id gs → CarriesRunBoxes ps l m (nanoseconds p.to) B C n fs gs → AreWithin (length B) ps
    → C ≡ spelled B ps → KeepsRun p m B C n
run_at p m ps B C n id l ts us t u fs gs less less' are are' same line are_fs are_gs boxes within spells =
    let was = info_at B 0 (traks (boxes_of B)) ts n t are less in
    let is = info_at C 0 (traks (boxes_of C)) us n u are' less' in
    let id_was = recorded (get_or ts n t).track_id id (at_track track_id B n) same.id_is.0 was.id in
    let id_is = recorded (get_or us n u).track_id id (at_track track_id C n) same.id_is.1 is.id in
    let run = boxes.run in
    let span = run.span in
    record {
      id = (id, id_was, id_is);
      scale = (
        same.scale,
        recorded (get_or ts n t).timescale same.scale (at_track timescale B n) same.scale_is.0 was.scale,
        recorded (get_or us n u).timescale same.scale (at_track timescale C n) same.scale_is.1 is.scale,
      );
      handler_type = (
        same.handler_type,
        recorded (get_or ts n t).handler same.handler_type (at_track handler B n) same.handler_is.0 was.handler_type,
        recorded (get_or us n u).handler same.handler_type (at_track handler C n) same.handler_is.1 is.handler_type,
      );
      stsd = boxes.stsd;
      line = l;
      is_line = line_at p B n (get_or ts n t) l was.scale line;
      first = run.first;
      is_first = last_at B n id boxes.were fs l (From m) run.first id_was boxes.is_were are_fs run.is_first;
      last = run.last;
      is_last = last_at B n id boxes.were fs l (To (nanoseconds p.to)) run.last id_was boxes.is_were are_fs run.is_last;
      before = span.before;
      after = span.after;
      is_before = teller B n id boxes.were fs span.before id_was boxes.is_were are_fs span.is_before;
      is_after = teller C n id boxes.are gs span.after id_is boxes.is_are are_gs span.is_after;
      earlier_by = span.earlier_by;
      counted = span.keeps.counted;
      each = λ k lt.
          let counted = span.keeps.counted in
          earlier_sample B C ps span.before span.after run.first run.last span.earlier_by k within spells
          (span.keeps.each k (omega (arith, counted, lt)));
    }

-- the runs of the tracks before number n are kept
abbrev pub RunsSoFar : Part → Moment → List Piece → ℕ → Option (List ℕ) → Option (List ℕ) → Type 0
RunsSoFar p m ps n r s =
    IfSome r (λ B. IfSome s (λ C. AreWithin (length B) ps → C ≡ spelled B ps → (k : ℕ) → k < n → KeepsRun p m B C k))

pub no_runs : (p : Part) (m : Moment) (ps : List Piece) (r s : Option (List ℕ)) → RunsSoFar p m ps 0 r s
no_runs p m ps None s = tt
no_runs p m ps (Some B) None = tt
no_runs p m ps (Some B) (Some C) = λ within spells k lt. absurd (omega (arith, lt))

-- one more track
pub one_more_run : (p : Part) (m : Moment) (now_r now_s r s : Option (List ℕ)) (ps : List Piece) (n id : ℕ) (l : Line)
    (ts us : List TrackInfo) (t u z : TrackInfo) (fs gs : List TrackFragment) → now_r ≡ r → now_s ≡ s → n < length ts
    → length us ≡ length ts → IfInfos r ts → IfInfos s us → SameHeaders (get_or ts n t) (get_or us n u) id
    → z ≡ get_or ts n z → IsLineIn p z n l → IfSome r (λ B. AreFragmentsOf B id fs)
    → IfSome s (λ C. AreFragmentsOf C id gs)
    → IfSome now_r (λ B. IfSome now_s (λ C. CarriesRunBoxes ps l m (nanoseconds p.to) B C n fs gs))
    → RunsSoFar p m ps n r s → RunsSoFar p m ps (n + 1) r s
one_more_run p m now_r now_s None s ps n id l ts us t u z fs gs same also less long are are' heads is line a b boxes
    kept = tt
one_more_run p m now_r now_s (Some B) None ps n id l ts us t u z fs gs same also less long are are' heads is line a b
    boxes kept = tt
one_more_run p m now_r now_s (Some B) (Some C) ps n id l ts us t u z fs gs same also less long are are' heads is line a
    b boxes kept = λ within spells.
    let here : IfSome now_s (λ C. CarriesRunBoxes ps l m (nanoseconds p.to) B C n fs gs) =
    subst (λ (o : Option (List ℕ)). IfSome o (λ B. IfSome now_s (λ C. CarriesRunBoxes ps l m (nanoseconds p.to) B C n
    fs gs))) same boxes in
    let both : CarriesRunBoxes ps l m (nanoseconds p.to) B C n fs gs =
    subst (λ (o : Option (List ℕ)). IfSome o (λ C. CarriesRunBoxes ps l m (nanoseconds p.to) B C n fs gs)) also here in
    let line' : IsLineIn p (get_or ts n t) n l =
    subst (λ (x : TrackInfo). IsLineIn p x n l) (get_or_read_under ts n (length ts) z t is less refl) line in
    below_more (λ (k : ℕ). KeepsRun p m B C k) n (kept within spells)
    (run_at p m ps B C n id l ts us t u fs gs less (omega (arith, less, long)) are are' heads line' a b both within
    spells)

abbrev value_of : {A : Type 0} → A → Result A Problem → A
value_of v (Ok w) = w
value_of v (Err e) = v

abbrev IsGood : {A : Type 0} → Result A Problem → Type 0
IsGood (Ok v) = Unit {0}
IsGood (Err e) = ⊥

-- a stored value is the answer
record_of : {A : Type 0} (r : Result A BoxError) (v : A) (d : Result A Problem) → d ≡ Ok v → Records r d → r ≡ Ok v
record_of {A} (Ok w) v d is records = ap (λ (x : A). Ok x) (ap (value_of w) (sym records ∙ is))
record_of {A} (Err e) v d is records =
    absurd (subst (λ (x : Result A Problem). IsGood x) (sym is ∙ records.1) tt)

-- the start of the first video
starts_by : (p : Part) (B : List ℕ) (ts : List TrackInfo) (groups : Groups) (m : Moment) (t : TrackInfo)
    → AreInfos B 0 (traks (boxes_of B)) ts → ((id : ℕ) → AreFragmentsOf B id (in_group groups id))
    → StartsIn p ts groups B m → Starts p B m
starts_by p B ts groups m t are of start =
    let v = start.video in
    let less = start.is_first.counted in
    let long = infos_counted B 0 (traks (boxes_of B)) ts are in
    let was = info_at B 0 (traks (boxes_of B)) ts v t are less in
    let is_id = recorded (get_or ts v t).track_id start.id (at_track track_id B v) (start.is_id t) was.id in
    record {
      video = v;
      counted = omega (arith, less, long);
      is_video = recorded (get_or ts v t).handler (four_cc_of codes.VIDE) (at_track handler B v)
          (start.is_first.is_video t) was.handler_type;
      first = λ k lt is.
          let here = info_at B 0 (traks (boxes_of B)) ts k t are (omega (arith, lt, less)) in
          start.is_first.first k t lt (record_of (get_or ts k t).handler (four_cc_of codes.VIDE) (at_track handler B k)
          is here.handler_type);
      line = start.line;
      is_line = line_at p B v (get_or ts v t) start.line was.scale (start.is_line t);
      place = start.place;
      is_last = last_at B v start.id start.is_last.were (in_group groups start.id) start.line
          (From (nanoseconds p.from)) (Some start.place) is_id
          start.is_last.is_were (of start.id) start.is_last.is_last;
      moment = start.moment;
    }

starts : (p : Part) (B : List ℕ) (ts : List TrackInfo) (groups : Groups) (m : Moment)
    → AreInfos B 0 (traks (boxes_of B)) ts → ((id : ℕ) → AreFragmentsOf B id (in_group groups id))
    → StartsIn p ts groups B m → Starts p B m
starts p B [] groups m are of start = absurd (omega (arith, start.is_first.counted))
starts p B (t ∷ ts) groups m are of start = starts_by p B (t ∷ ts) groups m t are of start

-- all tracks
pub all_runs : (p : Part) (m : Moment) (r s now : Option (List ℕ)) (ps : List Piece) (n : ℕ) (groups : Groups)
    (ts us : List TrackInfo) → now ≡ r → length ts ≤ n → length us ≡ length ts → IfInfos r ts
    → IfInfos s us → IfSome r (λ B. (id : ℕ) → AreFragmentsOf B id (in_group groups id))
    → IfSome now (λ B. StartsIn p ts groups B m) → RunsSoFar p m ps n r s
    → IfSome r (λ B. IfSome s (λ C. AreWithin (length B) ps → C ≡ spelled B ps → KeepsPart p B C))
all_runs p m None s now ps n groups ts us same past long are are' of start kept = tt
all_runs p m (Some B) None now ps n groups ts us same past long are are' of start kept = tt
all_runs p m (Some B) (Some C) now ps n groups ts us same past long are are' of start kept =
    let one = infos_counted B 0 (traks (boxes_of B)) ts are in
    let two = infos_counted C 0 (traks (boxes_of C)) us are' in
    let start' : StartsIn p ts groups B m = subst (λ (o : Option (List ℕ)). IfSome o (λ B. StartsIn p ts groups B m))
    same start in
    λ within spells. record {
      counted = sym two ∙ long ∙ one;
      start = m;
      starts = starts p B ts groups m are of start';
      tracks = λ k less. kept within spells k (omega (arith, past, one, less));
    }
