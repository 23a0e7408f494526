-- The tracks of two files by their numbers.
use Rattle.std.proofs.Common.{◌≡◌, ℕ, zero, suc, ◌+◌, ◌-◌, ◌<◌, ◌≤◌, true, false, List, [], ◌∷◌, length, get_or, None}
use Rattle.std.proofs.Common.{Some, Result, Ok, Err, refl, sym, ap, subst, ◌∙◌, below_more, arith, take, drop, inl, inr}
use Rattle.std.specs.Prelude.{IfOk, IfSome, OnOk, ◌==◌, ◌⊎◌}
use Rattle.std.specs.declared.option.Option.{Option}
use Rattle.std.proofs.lemmas.Bool.{ne_eqb, cases_eq}
use Rattle.mp4_frame.specs.declared.four_cc.FourCC.{FourCC}
use Rattle.mp4_movie.specs.Descriptions.{descriptions_of}
use Rattle.mp4_movie.specs.Infos.{AreInfos, IsInfo}
use Rattle.mp4_movie.specs.Levels.{Found}
use Rattle.mp4_movie.specs.Movies.{handler, of_track, samples_of, timescale, track_id, traks}
use Rattle.mp4_movie.specs.Problems.{Problem, Records}
use Rattle.mp4_movie.specs.declared.error.BoxError.{BoxError}
use Rattle.mp4_movie.specs.Fragments.{AreFragments}
use Rattle.mp4_movie.specs.declared.moof.MoofFragments.{MoofFragments}
use Rattle.mp4_movie.specs.declared.info.TrackInfo.{TrackInfo}
use Rattle.mp4_movie.specs.declared.sample_boxes.SampleBoxes.{SampleBoxes}
use Rattle.mp4_movie.specs.declared.track_fragment.TrackFragment.{TrackFragment}
use Rattle.mp4_remux.specs.declared.pieces.piece.Piece.{Piece}
use Rattle.mp4_remux.specs.Pieces.{AreWithin, spelled}
use Rattle.mp4_remux.proofs.Bytes.{old_bytes, same_bytes}
use Rattle.mp4_samples.specs.declared.sample.Sample.{Sample}
use Rattle.mp4_samples.specs.declared.tables.Tables.{Tables}
use Rattle.mp4_walk.specs.FileBoxes.{boxes_of}
use Rattle.mp4_walk.specs.declared.tree_box.TreeBox.{TreeBox}
use Rattle.mp4_remux.specs.Carried.{AreBorrowed, CarriesBoxes, CarriesMedia, CarriesSamples, CarriesTrack, IsTellerOf}
use Rattle.mp4_remux.specs.Carried.{SameHeaders}
use Rattle.mp4_remux.specs.Groups.{AreGroups, in_group}
use Rattle.mp4_remux.specs.Kept.{KeepsSample}
use Rattle.mp4_remux.specs.Tracks.{AreAgreeing}
use Rattle.mp4_remux.specs.declared.groups.Groups.{Groups}
use Rattle.mp4_remux.specs.Told.{AreFragmentsOf, AreTables, IsTeller, IsTold, at_track, count}
use Rattle.mp4_remux.specs.Whole.{IsSame, KeepsMedia, KeepsSampleOf, KeepsTrack, SameAnswer, track_count}
use Rattle.mp4_remux.specs.declared.teller.Teller.{Teller}

-- both files have an answer, and it is the same
pub same_answer : {A : Type 0} (read : List ℕ → List TreeBox → Result A Problem)
    (r s : Option (List ℕ)) (n : ℕ) (v w : A)
    → w ≡ v → IfSome r (λ B. at_track read B n ≡ Ok v) → IfSome s (λ C. at_track read C n ≡ Ok w)
    → IfSome r (λ B. IfSome s (λ C. SameAnswer read B C n))
same_answer read None s n v w same a b = tt
same_answer read (Some B) None n v w same a b = tt
same_answer {A} read (Some B) (Some C) n v w same a b = (v, a, b ∙ ap (λ (x : A). Ok x) same)

-- the boxes of a track in both files
pub with_boxes : (r s r' s' : Option (List ℕ)) (ps : List Piece) (n : ℕ) (v w : Option SampleBoxes)
    (fs gs : List TrackFragment) → r' ≡ r → s' ≡ s
    → IfSome r (λ B. IfSome s (λ C. SameAnswer descriptions_of B C n)) → IfSome r' (λ B. at_track samples_of B n ≡ Ok v)
    → IfSome s' (λ C. at_track samples_of C n ≡ Ok w) → CarriesSamples ps v w fs gs
    → IfSome r (λ B. IfSome s (λ C. CarriesBoxes ps B C n fs gs))
with_boxes None s r' s' ps n v w fs gs one two stsd a b samples = tt
with_boxes (Some B) None r' s' ps n v w fs gs one two stsd a b samples = tt
with_boxes (Some B) (Some C) r' s' ps n v w fs gs one two stsd a b samples = record {
  stsd = stsd;
  were = v;
  are = w;
  is_were = subst (λ (o : Option (List ℕ)). IfSome o (λ B. at_track samples_of B n ≡ Ok v)) one a;
  is_are = subst (λ (o : Option (List ℕ)). IfSome o (λ C. at_track samples_of C n ≡ Ok w)) two b;
  samples = samples;
}

-- there are as many answers as tracks
pub infos_counted : (file : List ℕ) (n : ℕ) (fs : List Found) (ts : List TrackInfo) → AreInfos file n fs ts
    → length ts ≡ length fs
infos_counted file n [] [] are = refl
infos_counted file n (f ∷ fs) (t ∷ ts) are = omega (arith, infos_counted file (n + 1) fs ts are.1)
infos_counted file n [] (t ∷ ts) are = absurd are
infos_counted file n (f ∷ fs) [] are = absurd are

pub recorded : {A : Type 0} (r : Result A BoxError) (v : A) (d : Result A Problem) → r ≡ Ok v → Records r d → d ≡ Ok v
recorded {A} r v d is records = subst (λ (x : Result A BoxError). Records x d) is records

-- the headers of a track are the answers for it
pub record AreHeaders (file : List ℕ) (k : ℕ) (fs : List Found) (t : TrackInfo) : Type 0 where
  pub id : Records t.track_id (of_track (track_id file) k fs)
  pub scale : Records t.timescale (of_track (timescale file) k fs)
  pub handler_type : Records t.handler (of_track (handler file) k fs)

pub info_at : (file : List ℕ) (n : ℕ) (fs : List Found) (ts : List TrackInfo) (k : ℕ) (t : TrackInfo)
    → AreInfos file n fs ts → k < length ts → AreHeaders file k fs (get_or ts k t)
info_at file n [] [] k t are less = absurd (omega (arith, less))
info_at file n (f ∷ fs) (u ∷ us) zero t are less = record {
  id = are.0.track_id_is;
  scale = are.0.timescale_is;
  handler_type = are.0.handler_is;
}
info_at file n (f ∷ fs) (u ∷ us) (suc k) t are less =
    let more : (suc k == 0) ≡ false = ne_eqb _ _ (λ z. absurd (omega (arith, z))) in
    let one : suc k - 1 ≡ k = omega arith in
    let rest = info_at file (n + 1) fs us k t are.1 (omega (arith, less)) in
    record {
      id = rw (more, one) rest.id;
      scale = rw (more, one) rest.scale;
      handler_type = rw (more, one) rest.handler_type;
    }
info_at file n [] (u ∷ us) k t are less = absurd are
info_at file n (f ∷ fs) [] k t are less = absurd are

-- the tracks before number n are kept
abbrev pub SoFar : List Piece → ℕ → Option (List ℕ) → Option (List ℕ) → Type 0
SoFar ps n r s = IfSome r (λ B. IfSome s (λ C. (k : ℕ) → k < n → CarriesTrack ps B C k))

-- these are the answers for the tracks of a file
abbrev pub IfInfos : Option (List ℕ) → List TrackInfo → Type 0
IfInfos r ts = IfSome r (λ file. AreInfos file 0 (traks (boxes_of file)) ts)

pub teller : (B : List ℕ) (n id : ℕ) (v : Option SampleBoxes) (fs : List TrackFragment) (m : Teller)
    → at_track track_id B n ≡ Ok id → at_track samples_of B n ≡ Ok v → AreFragmentsOf B id fs → IsTellerOf v fs m
    → IsTeller B n m
teller B n id v fs m is_id is_v are of = record {
  id = id;
  boxes = v;
  is_id = is_id;
  are_boxes = is_v;
  are_tables = of.are_tables;
  begin = of.begin;
  are_fragments = subst (λ (xs : List TrackFragment). AreFragmentsOf B id xs) (sym of.fragments) are;
}

track : (ps : List Piece) (B C : List ℕ) (n id : ℕ) (ts us : List TrackInfo) (t u : TrackInfo)
    (fs gs : List TrackFragment) → n < length ts → n < length us → AreInfos B 0 (traks (boxes_of B)) ts
    → AreInfos C 0 (traks (boxes_of C)) us → SameHeaders (get_or ts n t) (get_or us n u) id → AreFragmentsOf B id fs
    → AreFragmentsOf C id gs → CarriesBoxes ps B C n fs gs → CarriesTrack ps B C n
track ps B C n id ts us t u fs gs less less' are are' same are_fs are_gs boxes =
    let was = info_at B 0 (traks (boxes_of B)) ts n t are less in
    let is = info_at C 0 (traks (boxes_of C)) us n u are' less' in
    let id_was = recorded (get_or ts n t).track_id id (at_track track_id B n) same.id_is.0 was.id in
    let id_is = recorded (get_or us n u).track_id id (at_track track_id C n) same.id_is.1 is.id in
    record {
      id = (id, id_was, id_is);
      scale = (
        same.scale,
        recorded (get_or ts n t).timescale same.scale (at_track timescale B n) same.scale_is.0 was.scale,
        recorded (get_or us n u).timescale same.scale (at_track timescale C n) same.scale_is.1 is.scale,
      );
      handler_type = (
        same.handler_type,
        recorded (get_or ts n t).handler same.handler_type (at_track handler B n) same.handler_is.0 was.handler_type,
        recorded (get_or us n u).handler same.handler_type (at_track handler C n) same.handler_is.1 is.handler_type,
      );
      stsd = boxes.stsd;
      before = boxes.samples.before;
      after = boxes.samples.after;
      is_before = teller B n id boxes.were fs boxes.samples.before id_was boxes.is_were are_fs boxes.samples.is_before;
      is_after = teller C n id boxes.are gs boxes.samples.after id_is boxes.is_are are_gs boxes.samples.is_after;
      keeps = boxes.samples.keeps;
    }

-- one more track is kept
pub one_more : (now_r now_s r s : Option (List ℕ)) (ps : List Piece) (n id : ℕ) (ts us : List TrackInfo)
    (t u : TrackInfo) (fs gs : List TrackFragment) → now_r ≡ r → now_s ≡ s → n < length ts → length us ≡ length ts
    → IfInfos r ts → IfInfos s us → SameHeaders (get_or ts n t) (get_or us n u) id
    → IfSome r (λ B. AreFragmentsOf B id fs) → IfSome s (λ C. AreFragmentsOf C id gs)
    → IfSome now_r (λ B. IfSome now_s (λ C. CarriesBoxes ps B C n fs gs)) → SoFar ps n r s → SoFar ps (n + 1) r s
one_more now_r now_s None s ps n id ts us t u fs gs same also less long are are' heads a b boxes kept = tt
one_more now_r now_s (Some B) None ps n id ts us t u fs gs same also less long are are' heads a b boxes kept = tt
one_more now_r now_s (Some B) (Some C) ps n id ts us t u fs gs same also less long are are' heads a b boxes kept =
    let here : IfSome now_s (λ C. CarriesBoxes ps B C n fs gs) =
    subst (λ (o : Option (List ℕ)). IfSome o (λ B. IfSome now_s (λ C. CarriesBoxes ps B C n fs gs))) same boxes in
    let both : CarriesBoxes ps B C n fs gs =
    subst (λ (o : Option (List ℕ)). IfSome o (λ C. CarriesBoxes ps B C n fs gs)) also here in
    below_more (λ (k : ℕ). CarriesTrack ps B C k) n kept
    (track ps B C n id ts us t u fs gs less (omega (arith, less, long)) are are' heads a b both)

-- all tracks are kept
pub all_kept : (r s : Option (List ℕ)) (ps : List Piece) (n : ℕ) (ts us : List TrackInfo) → length ts ≤ n
    → length us ≡ length ts → IfInfos r ts → IfInfos s us → SoFar ps n r s
    → IfSome r (λ B. IfSome s (λ C. CarriesMedia ps B C))
all_kept None s ps n ts us past long are are' kept = tt
all_kept (Some B) None ps n ts us past long are are' kept = tt
all_kept (Some B) (Some C) ps n ts us past long are are' kept =
    let one = infos_counted B 0 (traks (boxes_of B)) ts are in
    let two = infos_counted C 0 (traks (boxes_of C)) us are' in
    record {
      counted = sym two ∙ long ∙ one;
      tracks = λ k less. kept k (omega (arith, past, one, less));
    }

-- a sample is the same in both files if its bytes come from there
same_sample : (B C : List ℕ) (ps : List Piece) (m n : Teller) (k : ℕ) → AreWithin (length B) ps → C ≡ spelled B ps
    → KeepsSample IsTold count IsTold count ps m n k → KeepsSampleOf B C m n k
same_sample B C ps m n k within spells here =
    let a = here.before in
    let b = here.after in
    record {
      before = a;
      after = b;
      is_before = here.is_before;
      is_after = here.is_after;
      same = record {
        alike = here.carried.alike;
        within = elim (cases_eq a.size 0) [
          | inl none ↦ inl none
          | inr some ↦ inr (old_bytes (length B) ps b.offset a.size a.offset within (omega arith) here.carried.bytes)
        ];
        bytes = ap (λ (x : ℕ). take x (drop b.offset C)) here.carried.alike.size
            ∙ ap (λ (xs : List ℕ). take a.size (drop b.offset xs)) spells
            ∙ same_bytes B ps b.offset a.size a.offset within here.carried.bytes;
      };
    }

keeps_track : (B C : List ℕ) (ps : List Piece) (n : ℕ) → AreWithin (length B) ps → C ≡ spelled B ps
    → CarriesTrack ps B C n → KeepsTrack B C n
keeps_track B C ps n within spells c = record {
  id = c.id;
  scale = c.scale;
  handler_type = c.handler_type;
  stsd = c.stsd;
  before = c.before;
  after = c.after;
  is_before = c.is_before;
  is_after = c.is_after;
  counted = c.keeps.counted;
  each = λ k lt. same_sample B C ps c.before c.after k within spells (c.keeps.each k lt);
}

media : (B C : List ℕ) (ps : List Piece) → CarriesMedia ps B C → AreWithin (length B) ps → C ≡ spelled B ps
    → KeepsMedia B C
media B C ps c within spells = record {
  counted = c.counted;
  tracks = λ n lt. keeps_track B C ps n within spells (c.tracks n lt);
}

-- the media of both files
pub if_media : {E : Type 0} (result : Result (Unit {0}) E) (r s : Option (List ℕ)) (ps : List Piece)
    → OnOk result (IfSome r (λ B. IfSome s (λ C. CarriesMedia ps B C)))
    → OnOk result (IfSome r (λ B. IfSome s (λ C. AreWithin (length B) ps → C ≡ spelled B ps → KeepsMedia B C)))
if_media (Err e) r s ps c = tt
if_media (Ok x) None s ps c = tt
if_media (Ok x) (Some B) None ps c = tt
if_media (Ok x) (Some B) (Some C) ps c = λ within spells. media B C ps c within spells

-- the tables of a track agree
pub agreeing : (o : Option SampleBoxes) (t : Option Tables) → AreBorrowed o t → AreAgreeing t → AreTables o t
agreeing None None are agree = tt
agreeing (Some v) (Some t) are agree = (are, agree)
agreeing None (Some t) are agree = absurd are
agreeing (Some v) None are agree = absurd are

-- the fragments of each track
pub fragments_by : {E : Type 0} (r : Option (List ℕ)) (groups : Result Groups E) (moofs : List MoofFragments)
    → IfSome r (λ B. AreFragments B (boxes_of B) moofs) → IfOk groups (λ g. AreGroups moofs g)
    → IfSome r (λ B. IfOk groups (λ g. (id : ℕ) → AreFragmentsOf B id (in_group g id)))
fragments_by None groups moofs are of = tt
fragments_by (Some B) (Err e) moofs are of = tt
fragments_by (Some B) (Ok g) moofs are of = λ id. record {
  moofs = moofs;
  all = of.all;
  are_moofs = are;
  are_all = of.are_all;
  of_track = of.each id;
}

-- those of one track
pub group_at : (r now : Option (List ℕ)) (g : Groups) (id : ℕ) (fs : List TrackFragment) → now ≡ r → fs ≡ in_group g id
    → IfSome now (λ B. (q : ℕ) → AreFragmentsOf B q (in_group g q)) → IfSome r (λ B. AreFragmentsOf B id fs)
group_at None now g id fs same is are = tt
group_at (Some B) now g id fs same is are =
    let here : (q : ℕ) → AreFragmentsOf B q (in_group g q) =
    subst (λ (o : Option (List ℕ)). IfSome o (λ B. (q : ℕ) → AreFragmentsOf B q (in_group g q))) same are in
    subst (λ (xs : List TrackFragment). AreFragmentsOf B id xs) (sym is) (here id)
