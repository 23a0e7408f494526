-- The rows of the tables and the fragments of a track, and of tracks one after the other.
use Rattle.std.proofs.Common.{◌≡◌, ℕ, Bool, true, false, List, [], ◌∷◌, ◌++◌, None, Some, Result, Ok, Err, refl, sym}
use Rattle.std.proofs.Common.{ap, subst, ◌∙◌, append_assoc, append-nil, inl}
use Rattle.std.specs.Prelude.{◌&&◌, ◌||◌, not, is_some, option_map, if◌then◌else◌}
use Rattle.std.specs.BTreeMap.{get}
use Rattle.std.specs.Ordering.{nat_cmp}
use Rattle.std.specs.declared.option.Option.{Option}
use Rattle.mp4_frame.specs.FourCC.{four_cc_of}
use Rattle.mp4_frame.specs.declared.codes.TheConstants as codes
use Rattle.mp4_movie.proofs.Levels.{next_in}
use Rattle.mp4_movie.specs.Ends.{end_of}
use Rattle.mp4_movie.specs.Levels.{Found, all_in, first_in}
use Rattle.mp4_movie.specs.Movies.{samples_of}
use Rattle.mp4_movie.specs.Tables.{AreTablesOf}
use Rattle.mp4_movie.specs.declared.error.BoxError.{BoxError}
use Rattle.mp4_movie.specs.declared.info.TrackInfo.{TrackInfo}
use Rattle.mp4_movie.specs.declared.sample_boxes.SampleBoxes.{SampleBoxes}
use Rattle.mp4_samples.specs.Disagreements.{Disagrees}
use Rattle.mp4_samples.specs.Edits.{AreEdits, EditList}
use Rattle.mp4_samples.specs.Samples.{AreConsistent}
use Rattle.mp4_samples.specs.declared.disagreement.Disagreement.{Disagreement}
use Rattle.mp4_samples.specs.declared.tables.Tables.{Tables}
use Rattle.mp4_walk.specs.declared.tree_box.TreeBox.{TreeBox}
use Rattle.mp4_inspect_samples.specs.EditParts.{AreEditParts}
use Rattle.mp4_inspect_samples.specs.Row.{Labels}
use Rattle.mp4_inspect_samples.specs.Samples.{Inputs, Tells, WritesIf, WritesOne, WritesTracks, is_any, is_wanted}
use Rattle.mp4_inspect_samples.specs.Samples.{limit_of, name_faults, named, read_scale, track_fault, trafs_for}
use Rattle.mp4_inspect_samples.specs.Samples.{with_name}
use Rattle.mp4_inspect_samples.specs.Tracks.{TrackInputs, WritesBoxes, WritesByList, WritesByParts, WritesTables}
use Rattle.mp4_inspect_samples.specs.Tracks.{WritesTimed}
use Rattle.mp4_inspect_samples.specs.Tracks.{WritesTraf, WritesTrafs, WritesWith}
use Rattle.mp4_inspect_samples.specs.Trafs.{added, list_of, stored_for}
use Rattle.mp4_inspect_samples.specs.declared.choice.Choice.{Choice}
use Rattle.mp4_inspect_samples.specs.declared.edits.EditParts.{EditParts}
use Rattle.mp4_inspect_samples.specs.declared.fault.Fault.{Fault}
use Rattle.mp4_inspect_samples.specs.declared.fault.Fault.TheVariants as faults
use Rattle.mp4_inspect_samples.specs.declared.fault.TrackFault.{TrackFault}
use Rattle.mp4_inspect_samples.specs.declared.fault.TrackName.{TrackName}
use Rattle.mp4_inspect_samples.specs.declared.fragments.Fragments.{Fragments}
use Rattle.mp4_inspect_samples.specs.declared.fragments.TrackTraf.{TrackTraf}
use Rattle.mp4_inspect_samples.specs.declared.limit.Limit.{Limit}
use Rattle.mp4_inspect_samples.specs.declared.reached.Reached.{Reached}
use Rattle.mp4_inspect_samples.specs.declared.row_text.Form.{Form}

-- ---- the tables

-- rows of the tables that the boxes of a sample table make
pub of_boxes : (boxes : SampleBoxes) (made tables : Tables) (time : ℕ) (limit : Limit) (form : Form) (labels : Labels)
    (follows is_followed : Bool) (old new : Option (List ℕ)) (reached : Reached)
    → AreTablesOf boxes made → tables ≡ made → AreConsistent made
    → time ≡ end_of boxes.stts.entries
    → WritesTables tables time limit form labels follows is_followed old new reached
    → WritesBoxes boxes limit form labels follows is_followed old new (Ok reached)
of_boxes boxes made tables time limit form labels follows is_followed old new reached are same agree ends writes =
    record {
      tables = made;
      are = are;
      writes = (
        agree,
        subst (λ (n : ℕ). WritesTables made n limit form labels follows is_followed old new reached) ends
            (subst (λ (t : Tables). WritesTables t time limit form labels follows is_followed old new reached) same
            writes),
      );
    }

pub of_disagreement : (boxes : SampleBoxes) (made : Tables) (d : Disagreement) (limit : Limit) (form : Form)
    (labels : Labels) (follows : Bool) (old : Option (List ℕ)) → AreTablesOf boxes made → Disagrees made d
    → WritesBoxes boxes limit form labels follows follows old old (Err (faults.Tables d))
of_disagreement boxes made d limit form labels follows old are disagrees =
    record { tables = made; are = are; writes = (d, refl, disagrees, (refl, refl)) }

-- ---- the fragments

-- the trafs that are left are written after those of the track before them
abbrev pub RowsSoFar : Limit → Form → Labels → List TrackTraf → Result Reached Fault → Bool → Option (List ℕ)
    → List TrackTraf → Result Reached Fault → Bool → Option (List ℕ) → Type 0
RowsSoFar limit form labels trafs first follows old left reached between mid =
    (is_followed : Bool) (new : Option (List ℕ)) (end : Result Reached Fault)
    → WritesTrafs limit form labels left reached between is_followed mid new end
    → WritesTrafs limit form labels trafs first follows is_followed old new end

pub rows_start : (limit : Limit) (form : Form) (labels : Labels) (trafs left : List TrackTraf)
    (first : Result Reached Fault) (follows : Bool) (old : Option (List ℕ)) → left ≡ trafs
    → RowsSoFar limit form labels trafs first follows old left first follows old
rows_start limit form labels trafs left first follows old is = λ is_followed new end w.
    subst (λ (ts : List TrackTraf). WritesTrafs limit form labels ts first follows is_followed old new end) is w

pub rows_next : (limit : Limit) (form form2 : Form) (labels : Labels) (trafs left more : List TrackTraf) (t : TrackTraf)
    (first reached next : Result Reached Fault) (follows before between : Bool) (old mid now : Option (List ℕ))
    → left ≡ t ∷ more → form2 ≡ form → WritesTraf limit form2 labels t reached before between mid now next
    → RowsSoFar limit form labels trafs first follows old left reached before mid
    → RowsSoFar limit form labels trafs first follows old more next between now
rows_next limit form form2 labels trafs left more t first reached next follows before between old mid now cut same one
    known = λ is_followed new end w.
    known is_followed new end
    (subst (λ (ts : List TrackTraf).
    WritesTrafs limit form labels ts reached before is_followed mid new end) (sym cut) (
      between,
      now,
      next,
      subst (λ (f : Form). WritesTraf limit f labels t reached before between mid now next) same one,
      w,
    ))

pub rows_end : (limit : Limit) (form : Form) (labels : Labels) (trafs left : List TrackTraf)
    (first reached : Result Reached Fault) (follows before : Bool) (old mid : Option (List ℕ)) → left ≡ []
    → RowsSoFar limit form labels trafs first follows old left reached before mid
    → WritesTrafs limit form labels trafs first follows before old mid reached
rows_end limit form labels trafs left first reached follows before old mid none known =
    known before mid reached
    (subst (λ (ts : List TrackTraf). WritesTrafs limit form labels ts reached before before mid mid reached) (sym none)
    (refl, (refl, refl)))

-- ---- the tracks

-- the tracks that are left are written after those before them
abbrev pub TracksSoFar : Inputs → List TreeBox → List TrackInfo → Option (List ℕ) → List TrackFault → List ℕ
    → List TreeBox → List TrackInfo → Bool → Option (List ℕ) → List TrackFault → Type 0
TracksSoFar i movie infos old before met rest left between mid now =
    (new : Option (List ℕ)) (more : List TrackFault) (last : List ℕ)
    → WritesTracks i movie met (all_in 1 (four_cc_of codes.TRAK) rest) left between mid new more last
    → (told : List TrackFault)
    × WritesTracks i movie [] (all_in 1 (four_cc_of codes.TRAK) movie) infos false old new told last
    × (now ++ more ≡ before ++ told)

pub tracks_start : (i : Inputs) (movie : List TreeBox) (infos left : List TrackInfo) (old : Option (List ℕ))
    (before : List TrackFault) (follows : Bool) → left ≡ infos → follows ≡ false
    → TracksSoFar i movie infos old before [] movie left follows old before
tracks_start i movie infos left old before follows is none = λ new more last w. (
  more,
  subst (λ (b : Bool).
      WritesTracks i movie [] (all_in 1 (four_cc_of codes.TRAK) movie) infos b old new more last) none
      (subst (λ (ts : List TrackInfo).
      WritesTracks i movie [] (all_in 1 (four_cc_of codes.TRAK) movie) ts follows old new more last) is w),
  refl,
)

pub tracks_next : (i : Inputs) (movie : List TreeBox) (infos left others : List TrackInfo) (info : TrackInfo)
    (old mid now : Option (List ℕ)) (before a b one : List TrackFault) (met : List ℕ) (rest : List TreeBox) (x : Found)
    (follows between : Bool) → Some x ≡ first_in 1 (four_cc_of codes.TRAK) rest → left ≡ info ∷ others
    → WritesOne i movie met x.after info follows between mid now one → b ≡ a ++ one
    → TracksSoFar i movie infos old before met rest left follows mid a
    → TracksSoFar i movie infos old before (with_name met (named info.position info.track_id)) x.after others between
    now b
tracks_next i movie infos left others info old mid now before a b one met rest x follows between is cut writes told
    known = λ new more last w.
    let code = four_cc_of codes.TRAK in
    let all : all_in 1 code rest ≡ x ∷ all_in 1 code x.after = next_in 1 code rest (Some x) is in
    let h = known new (one ++ more) last
    (subst (λ (fs : List Found). WritesTracks i movie met fs left follows mid new (one ++ more) last) (sym all)
    (subst (λ (ts : List TrackInfo).
    WritesTracks i movie met (x ∷ all_in 1 code x.after) ts follows mid new (one ++ more) last) (sym cut)
    (between, now, one, more, writes, w, refl))) in
    (h.0, h.1, ap (λ (ts : List TrackFault). ts ++ more) told ∙ append_assoc a one more ∙ h.2)

no_infos : (i : Inputs) (movie : List TreeBox) (met : List ℕ) (fs : List Found) (follows : Bool) (mid : Option (List ℕ))
    → WritesTracks i movie met fs [] follows mid mid [] met
no_infos i movie met [] follows mid = (refl, refl, refl)
no_infos i movie met (f ∷ fs) follows mid = (refl, refl, refl)

-- all tracks are written, and their faults are stored
abbrev pub AllTracks : Inputs → List TreeBox → List TrackInfo → Option (List ℕ) → Option (List ℕ) → List TrackFault
    → List TrackFault → List ℕ → Type 0
AllTracks i movie infos old new before after met =
    (told : List TrackFault)
    × WritesTracks i movie [] (all_in 1 (four_cc_of codes.TRAK) movie) infos false old new told met
    × (after ≡ before ++ told)

pub tracks_answered : (i : Inputs) (movie : List TreeBox) (infos left : List TrackInfo) (old mid : Option (List ℕ))
    (before a : List TrackFault) (met : List ℕ) (rest : List TreeBox) (follows : Bool) → left ≡ []
    → TracksSoFar i movie infos old before met rest left follows mid a → AllTracks i movie infos old mid before a met
tracks_answered i movie infos left old mid before a met rest follows none known =
    let fs = all_in 1 (four_cc_of codes.TRAK) rest in
    let h = known mid [] met
    (subst (λ (ts : List TrackInfo). WritesTracks i movie met fs ts follows mid mid [] met) (sym none)
    (no_infos i movie met fs follows mid)) in
    (h.0, h.1, sym (append-nil a) ∙ h.2)

pub tracks_end : (i : Inputs) (movie : List TreeBox) (infos left : List TrackInfo) (old mid : Option (List ℕ))
    (before a : List TrackFault) (met : List ℕ) (rest : List TreeBox) (follows : Bool)
    → None ≡ first_in 1 (four_cc_of codes.TRAK) rest
    → TracksSoFar i movie infos old before met rest left follows mid a → AllTracks i movie infos old mid before a met
tracks_end i movie infos left old mid before a met rest follows is known =
    let h = known mid [] met
    (subst (λ (fs : List Found). WritesTracks i movie met fs left follows mid mid [] met)
    (sym (next_in 1 (four_cc_of codes.TRAK) rest None is)) (refl, refl, refl)) in
    (h.0, h.1, sym (append-nil a) ∙ h.2)

-- ---- the track_IDs without a track

some_mapped : {A B : Type 0} (f : A → B) (o : Option A) → is_some (option_map f o) ≡ is_some o
some_mapped f None = refl
some_mapped f (Some a) = refl

pub some_stored : (f : Fragments) (q : ℕ) → is_some (stored_for f q) ≡ is_some (get nat_cmp f.by_track q)
some_stored f q = some_mapped _ (get nat_cmp f.by_track q)

pub some_left : (b : Bool) (xs : List TrackTraf)
    → is_some (if b then None else added None xs) ≡ (not b && is_any xs)
some_left true xs = refl
some_left false [] = refl
some_left false (x ∷ xs) = refl

-- ---- one track

-- the rows of a track by these inputs
abbrev pub TimedBy : List TreeBox → List TreeBox → Result ℕ BoxError → Inputs → TrackName → Bool → Bool
    → Option (List ℕ) → Option (List ℕ) → Option Fault → Limit → Form → Choice → Option ℕ → List TrackTraf → Type 0
TimedBy movie trak media i name follows is_followed old new fault limit form choice timescale trafs =
    WritesTimed choice.edits i.file movie trak media (record {
      limit = limit;
      form = form;
      choice = choice;
      name = name;
      timescale = timescale;
      trafs = trafs;
      tables = samples_of i.file trak;
    }) follows is_followed old new fault

pub of_unwanted : (i : Inputs) (movie : List TreeBox) (met : List ℕ) (name : TrackName) (media : Result ℕ BoxError)
    (trak : List TreeBox) (wanted follows : Bool) (old : Option (List ℕ)) (told : List TrackFault) → wanted ≡ false
    → Tells (WritesIf wanted i movie met name media trak follows follows old old) told told
of_unwanted i movie met name media trak wanted follows old told is =
    subst (λ (b : Bool). Tells (WritesIf b i movie met name media trak follows follows old old) told told) (sym is)
    ([], (refl, (refl, refl)), sym (append-nil told))

pub of_wanted : (i : Inputs) (movie : List TreeBox) (met : List ℕ) (name : TrackName) (media : Result ℕ BoxError)
    (trak : List TreeBox) (wanted follows is_followed : Bool) (old new : Option (List ℕ)) (limit : Limit) (form : Form)
    (choice : Choice) (timescale : Option ℕ) (trafs : List TrackTraf) (fault : Option Fault)
    (before after : List TrackFault)
    → wanted ≡ true → limit ≡ limit_of i.choice i.file → form ≡ i.choice.form → choice ≡ i.choice
    → timescale ≡ read_scale media → trafs ≡ trafs_for i.trafs met name
    → TimedBy movie trak media i name follows is_followed old new fault limit form choice timescale trafs
    → after ≡ before ++ track_fault name fault
    → Tells (WritesIf wanted i movie met name media trak follows is_followed old new) before after
of_wanted i movie met name media trak wanted follows is_followed old new limit form choice timescale trafs fault before
    after is limits forms choices scales own writes told =
    subst (λ (b : Bool). Tells (WritesIf b i movie met name media trak follows is_followed old new) before after)
    (sym is) (
      track_fault name fault,
      (
        fault,
        subst (λ (l : Limit). TimedBy movie trak media i name follows is_followed old new fault l i.choice.form i.choice
            (read_scale media) (trafs_for i.trafs met name)) limits
            (subst (λ (f : Form). TimedBy movie trak media i name follows is_followed old new fault limit f i.choice
            (read_scale media) (trafs_for i.trafs met name)) forms
            (subst (λ (h : Choice). TimedBy movie trak media i name follows is_followed old new fault limit form h
            (read_scale media) (trafs_for i.trafs met name)) choices
            (subst (λ (s : Option ℕ). TimedBy movie trak media i name follows is_followed old new fault limit form
            choice
            s (trafs_for i.trafs met name)) scales
            (subst (λ (ts : List TrackTraf). TimedBy movie trak media i name follows is_followed old new fault limit
            form
            choice timescale ts) own writes)))),
        refl,
      ),
      told,
    )

-- a track is written by the parts of its edit list
pub of_timed : (edits : Bool) (file : List ℕ) (movie trak : List TreeBox) (media : Result ℕ BoxError) (t : TrackInputs)
    (read parts : Result EditParts BoxError) (follows is_followed : Bool) (old new : Option (List ℕ))
    (fault : Option Fault) → edits ≡ true → AreEditParts file movie trak media read → read ≡ parts
    → WritesByParts t parts follows is_followed old new fault
    → WritesTimed edits file movie trak media t follows is_followed old new fault
of_timed edits file movie trak media t read parts follows is_followed old new fault is are same writes =
    subst (λ (b : Bool). WritesTimed b file movie trak media t follows is_followed old new fault) (sym is)
    (parts, subst (λ (r : Result EditParts BoxError). AreEditParts file movie trak media r) same are, writes)

-- a track is written by a list that is this one
pub of_edits : (t : TrackInputs) (l made : EditList) (follows is_followed : Bool) (old new : Option (List ℕ))
    (fault : Option Fault) → AreEdits l → made ≡ l → WritesWith t (Some made) follows is_followed old new fault
    → WritesByList t l follows is_followed old new fault
of_edits t l made follows is_followed old new fault are same writes =
    inl (are, subst (λ (m : EditList). WritesWith t (Some m) follows is_followed old new fault) same writes)

-- a track with this name is written, and its faults are stored
pub of_one : (i : Inputs) (movie : List TreeBox) (met : List ℕ) (trak : List TreeBox) (info : TrackInfo)
    (name : TrackName) (wanted follows is_followed : Bool) (old new : Option (List ℕ))
    (before mid after : List TrackFault)
    → name ≡ named info.position info.track_id → wanted ≡ is_wanted i.choice.track met name
    → mid ≡ before ++ name_faults info.position info.track_id
    → Tells (WritesIf wanted i movie met name info.timescale trak follows is_followed old new) mid after
    → Tells (WritesOne i movie met trak info follows is_followed old new) before after
of_one i movie met trak info name wanted follows is_followed old new before mid after is wants first rest = (
  name_faults info.position info.track_id ++ rest.0,
  (
    rest.0,
    subst (λ (n : TrackName). WritesIf (is_wanted i.choice.track met n) i movie met n info.timescale trak follows
        is_followed old new rest.0) is
        (subst (λ (b : Bool). WritesIf b i movie met name info.timescale trak follows is_followed old new rest.0) wants
        rest.1),
    refl,
  ),
  rest.2 ∙ ap (λ (ts : List TrackFault). ts ++ rest.0) first
      ∙ append_assoc before (name_faults info.position info.track_id) rest.0,
)

-- ---- what is stored of tracks

pub taken_is : (b : Bool) (xs : List TrackTraf)
    → list_of (if b then None else added None xs) ≡ (if b then [] else xs)
taken_is true xs = refl
taken_is false [] = refl
taken_is false (x ∷ xs) = refl

pub left_after : (b c : Bool) (xs : List TrackTraf) (o : Option (List TrackTraf))
    → o ≡ (if c then None else added None xs) → (if b then None else o) ≡ (if (c || b) then None else added None xs)
left_after true true xs o is = refl
left_after true false xs o is = refl
left_after false true xs o is = is
left_after false false xs o is = is
