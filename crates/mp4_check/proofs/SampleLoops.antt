-- The faults of samples that are appended, one track, traf or moof after the other.
use Rattle.std.proofs.Common.{◌≡◌, ℕ, List, [], ◌∷◌, ◌++◌, None, Some, refl, sym, ap, subst, ◌∙◌}
use Rattle.std.proofs.Common.{append_assoc, append-nil}
use Rattle.std.proofs.Math.Path.{fun_ext}
use Rattle.std.specs.BTreeMap.{get}
use Rattle.std.specs.Option.{option_or}
use Rattle.std.specs.Ordering.{nat_cmp}
use Rattle.std.specs.Prelude.{◌==◌, length, option_map, unwrap_or, if◌then◌else◌}
use Rattle.std.specs.declared.option.Option.{Option}
use Rattle.mp4_check.specs.FaultValues.{Value}
use Rattle.mp4_check.specs.FragmentFaults.{trafs_of}
use Rattle.mp4_check.specs.Headers.{track_header}
use Rattle.mp4_content.specs.Paths.{next}
use Rattle.mp4_check.specs.SampleFaults.{AreKinds, AreMoofsLooked, AreSampleFaults, AreTracksLooked, AreTrafsLooked}
use Rattle.mp4_check.specs.SampleFaults.{TrackLooked, TrafLooked, kinds_at, kinds_for, track_kinds}
use Rattle.mp4_check.specs.TrackFaults.{has_track_id}
use Rattle.mp4_check.specs.declared.headers.TrackHeader.{TrackHeader}
use Rattle.mp4_check.specs.declared.sample_faults.Kept.{Kept}
use Rattle.mp4_check.specs.declared.samples.kind.Kind.{Kind}
use Rattle.mp4_flat.specs.declared.trex.TrexBox.{TrexBox}
use Rattle.mp4_frame.specs.FourCC.{four_cc_of}
use Rattle.mp4_frame.specs.declared.codes.TheConstants as codes
use Rattle.mp4_lemmas.proofs.Booleans.{by_bool}
use Rattle.mp4_movie.specs.Defaults.{defaults_in, trexes}
use Rattle.mp4_movie.specs.Levels.{Found, all_in, first_in, movie_in}
use Rattle.mp4_movie.specs.Movies.{traks}
use Rattle.mp4_movie.proofs.Levels.{next_in}
use Rattle.mp4_walk.specs.declared.tree_box.TreeBox.{TreeBox}

-- ---- tracks

-- what holds of the tracks that are left gives the same of all tracks
pub record TracksSoFar (file : List ℕ) (movie rest : List TreeBox) (n begin left : ℕ) (old now : List Value)
    : Type 0 where
  pub all : (new : List Value) (after : ℕ)
      → AreTracksLooked file n (all_in 1 (four_cc_of codes.TRAK) rest) left now new after
      → AreTracksLooked file 0 (all_in 1 (four_cc_of codes.TRAK) movie) begin old new after

pub no_tracks : (file : List ℕ) (movie : List TreeBox) (begin : ℕ) (old : List Value)
    → TracksSoFar file movie movie 0 begin begin old old
no_tracks file movie begin old = record { all = λ new after h. h }

pub one_track : (file : List ℕ) (movie rest : List TreeBox) (n m begin left left2 : ℕ) (old now now2 : List Value)
    (f : Found) → Some f ≡ first_in 1 (four_cc_of codes.TRAK) rest → m ≡ next n
    → TrackLooked file n f.after left now now2 left2 → TracksSoFar file movie rest n begin left old now
    → TracksSoFar file movie f.after m begin left2 old now2
one_track file movie rest n m begin left left2 old now now2 f is number looked h = record {
  all = λ new after more. h.all new after
      (subst (λ (fs : List Found). AreTracksLooked file n fs left now new after)
      (sym (next_in 1 (four_cc_of codes.TRAK) rest (Some f) is)) (
        now2,
        left2,
        looked,
        subst (λ (k : ℕ).
            AreTracksLooked file k (all_in 1 (four_cc_of codes.TRAK) f.after) left2 now2 new after) number more,
      ));
}

pub all_tracks : (file : List ℕ) (movie rest : List TreeBox) (n begin left : ℕ) (old now : List Value)
    → None ≡ first_in 1 (four_cc_of codes.TRAK) rest → TracksSoFar file movie rest n begin left old now
    → AreTracksLooked file 0 (all_in 1 (four_cc_of codes.TRAK) movie) begin old now left
all_tracks file movie rest n begin left old now is h =
    h.all now left (subst (λ (fs : List Found). AreTracksLooked file n fs left now now left)
    (sym (next_in 1 (four_cc_of codes.TRAK) rest None is)) (refl, refl))

-- ---- kinds

-- the kinds of the tracks before the rest are stored
pub record KindsSoFar (file : List ℕ) (movie rest : List TreeBox) (kept : Kept) : Type 0 where
  pub earlier : List Found
  pub are : earlier ++ all_in 1 (four_cc_of codes.TRAK) rest ≡ all_in 1 (four_cc_of codes.TRAK) movie
  pub stored : AreKinds file earlier kept

pub no_kinds : (file : List ℕ) (movie : List TreeBox) (kept : Kept) → AreKinds file [] kept
    → KindsSoFar file movie movie kept
no_kinds file movie kept none = record { earlier = []; are = refl; stored = none }

pub more_kinds : (file : List ℕ) (movie rest : List TreeBox) (old new : Kept) (f : Found)
    → Some f ≡ first_in 1 (four_cc_of codes.TRAK) rest → (h : KindsSoFar file movie rest old)
    → AreKinds file (h.earlier ++ f ∷ []) new → KindsSoFar file movie f.after new
more_kinds file movie rest old new f is h stored =
    let code = four_cc_of codes.TRAK in
    record {
      earlier = h.earlier ++ f ∷ [];
      are = append_assoc h.earlier (f ∷ []) (all_in 1 code f.after)
          ∙ ap (λ (fs : List Found). h.earlier ++ fs) (sym (next_in 1 code rest (Some f) is)) ∙ h.are;
      stored = stored;
    }

pub all_kinds : (file : List ℕ) (movie rest : List TreeBox) (kept : Kept)
    → None ≡ first_in 1 (four_cc_of codes.TRAK) rest → KindsSoFar file movie rest kept
    → AreKinds file (all_in 1 (four_cc_of codes.TRAK) movie) kept
all_kinds file movie rest kept is h =
    subst (λ (fs : List Found). AreKinds file fs kept)
    (sym (append-nil h.earlier)
    ∙ ap (λ (fs : List Found). h.earlier ++ fs) (sym (next_in 1 (four_cc_of codes.TRAK) rest None is)) ∙ h.are) h.stored

-- the kinds of a track, if its header has this track_ID
abbrev pub kinds_with : List ℕ → ℕ → Found → Option (List Kind)
kinds_with file id f =
    if has_track_id id (track_header file f.after) then Some (track_kinds file f.after) else None

pub kinds_more : (file : List ℕ) (id : ℕ) (fs : List Found) (f : Found)
    → kinds_for file id (fs ++ f ∷ []) ≡ option_or (kinds_for file id fs) (kinds_with file id f)
kinds_more file id [] f =
    by_bool (has_track_id id (track_header file f.after)) (λ yes. rw yes refl) (λ no. rw no refl)
kinds_more file id (g ∷ fs) f =
    by_bool (has_track_id id (track_header file g.after)) (λ yes. rw yes refl)
    (λ no. rw no (kinds_more file id fs f))

or_nothing : (o : Option (List Kind)) → option_or o None ≡ o
or_nothing None = refl
or_nothing (Some ks) = refl

-- the stored kinds, by track_ID
abbrev pub stored : Kept → ℕ → Option (List Kind)
stored kept id = option_map (λ v. v.items) (get nat_cmp kept.kinds id)

-- a track without a header stores nothing
pub kinds_same : (file : List ℕ) (fs : List Found) (f : Found) (kept : Kept) → track_header file f.after ≡ None
    → AreKinds file fs kept → AreKinds file (fs ++ f ∷ []) kept
kinds_same file fs f kept none h id =
    h id
    ∙ sym (kinds_more file id fs f
    ∙ ap (λ (o : Option TrackHeader). option_or (kinds_for file id fs)
    (if has_track_id id o then Some (track_kinds file f.after) else None)) none
    ∙ or_nothing (kinds_for file id fs))

-- one more track with a header stores its kinds, if it is the first with its track_ID
pub kinds_stored : (file : List ℕ) (fs : List Found) (f : Found) (header : TrackHeader) (ks : List Kind)
    (old new : Kept)
    → track_header file f.after ≡ Some header → track_kinds file f.after ≡ ks → AreKinds file fs old
    → ((q : ℕ) → stored new q ≡ option_or (stored old q) (if header.track_id == q then Some ks else None))
    → AreKinds file (fs ++ f ∷ []) new
kinds_stored file fs f header ks old new is are h more id =
    more id
    ∙ ap (λ (o : Option (List Kind)). option_or o (if header.track_id == id then Some ks else None)) (h id)
    ∙ ap (λ (k : List Kind). option_or (kinds_for file id fs) (if header.track_id == id then Some k else None))
    (sym are)
    ∙ ap (λ (o : Option TrackHeader). option_or (kinds_for file id fs)
    (if has_track_id id o then Some (track_kinds file f.after) else None)) (sym is)
    ∙ sym (kinds_more file id fs f)

-- equal maps store the same kinds
pub same_kinds : (a b : Kept) → a.kinds ≡ b.kinds → kinds_at a ≡ kinds_at b
same_kinds a b is = rw is refl

-- ---- trafs

module _ (file : List ℕ) (defaults : ℕ → Option TrexBox) (kinds : ℕ → List Kind) (m : ℕ) (moof : Found) where
  -- what holds of the trafs that are left gives the same of all trafs
  pub record TrafsSoFar (rest : List TreeBox) (n : ℕ) (end : Option ℕ) (begin left : ℕ) (old now : List Value)
      : Type 0 where
    pub all : (new : List Value) (after : ℕ)
        → AreTrafsLooked file defaults kinds m n moof.box.position end (all_in 1 (four_cc_of codes.TRAF) rest) left now
        new after
        → AreTrafsLooked file defaults kinds m 0 moof.box.position (Some moof.box.position) (trafs_of moof) begin old
        new after

  pub no_trafs : (begin : ℕ) (old : List Value)
      → TrafsSoFar moof.after 0 (Some moof.box.position) begin begin old old
  no_trafs begin old = record { all = λ new after h. h }

  pub one_traf : (rest : List TreeBox) (n n2 : ℕ) (end end2 : Option ℕ) (begin left left2 : ℕ)
      (old now now2 : List Value) (x : Found) → Some x ≡ first_in 1 (four_cc_of codes.TRAF) rest → n2 ≡ next n
      → TrafLooked file defaults kinds m n moof.box.position end x left now now2 end2 left2
      → TrafsSoFar rest n end begin left old now → TrafsSoFar x.after n2 end2 begin left2 old now2
  one_traf rest n n2 end end2 begin left left2 old now now2 x is number looked h = record {
    all = λ new after more. h.all new after
        (subst (λ (xs : List Found).
        AreTrafsLooked file defaults kinds m n moof.box.position end xs left now new after)
        (sym (next_in 1 (four_cc_of codes.TRAF) rest (Some x) is)) (
          now2,
          end2,
          left2,
          looked,
          subst (λ (k : ℕ). AreTrafsLooked file defaults kinds m k moof.box.position end2
              (all_in 1 (four_cc_of codes.TRAF) x.after) left2 now2 new after) number more,
        ));
  }

  pub all_trafs : (rest : List TreeBox) (n : ℕ) (end : Option ℕ) (begin left : ℕ) (old now : List Value)
      → None ≡ first_in 1 (four_cc_of codes.TRAF) rest → TrafsSoFar rest n end begin left old now
      → AreTrafsLooked file defaults kinds m 0 moof.box.position (Some moof.box.position) (trafs_of moof) begin old now
      left
  all_trafs rest n end begin left old now is h =
      h.all now left
      (subst (λ (xs : List Found). AreTrafsLooked file defaults kinds m n moof.box.position end xs left now now left)
      (sym (next_in 1 (four_cc_of codes.TRAF) rest None is)) (refl, refl))

-- ---- moofs

module _ (file : List ℕ) (defaults : ℕ → Option TrexBox) (kinds : ℕ → List Kind) (boxes : List TreeBox) where
  -- what holds of the moofs that are left gives the same of all moofs
  pub record MoofsSoFar (rest : List TreeBox) (m begin left : ℕ) (old now : List Value) : Type 0 where
    pub all : (new : List Value) (after : ℕ)
        → AreMoofsLooked file defaults kinds m (all_in 0 (four_cc_of codes.MOOF) rest) left now new after
        → AreMoofsLooked file defaults kinds 0 (all_in 0 (four_cc_of codes.MOOF) boxes) begin old new after

  pub no_moofs : (begin : ℕ) (old : List Value) → MoofsSoFar boxes 0 begin begin old old
  no_moofs begin old = record { all = λ new after h. h }

  pub one_moof : (rest : List TreeBox) (m m2 begin left left2 : ℕ) (old now now2 : List Value) (x : Found)
      → Some x ≡ first_in 0 (four_cc_of codes.MOOF) rest → m2 ≡ next m
      → AreTrafsLooked file defaults kinds m 0 x.box.position (Some x.box.position) (trafs_of x) left now now2 left2
      → MoofsSoFar rest m begin left old now → MoofsSoFar x.after m2 begin left2 old now2
  one_moof rest m m2 begin left left2 old now now2 x is number looked h = record {
    all = λ new after more. h.all new after
        (subst (λ (xs : List Found). AreMoofsLooked file defaults kinds m xs left now new after)
        (sym (next_in 0 (four_cc_of codes.MOOF) rest (Some x) is)) (
          now2,
          left2,
          looked,
          subst (λ (k : ℕ). AreMoofsLooked file defaults kinds k
              (all_in 0 (four_cc_of codes.MOOF) x.after) left2 now2 new after) number more,
        ));
  }

  pub all_moofs : (rest : List TreeBox) (m begin left : ℕ) (old now : List Value)
      → None ≡ first_in 0 (four_cc_of codes.MOOF) rest → MoofsSoFar rest m begin left old now
      → AreMoofsLooked file defaults kinds 0 (all_in 0 (four_cc_of codes.MOOF) boxes) begin old now left
  all_moofs rest m begin left old now is h =
      h.all now left (subst (λ (xs : List Found). AreMoofsLooked file defaults kinds m xs left now now left)
      (sym (next_in 0 (four_cc_of codes.MOOF) rest None is)) (refl, refl))

-- ---- the file

-- the faults of the tracks, then those of the fragments
pub all_samples : (file : List ℕ) (boxes movie : List TreeBox) (defaults : ℕ → Option TrexBox) (begin left after : ℕ)
    (kept : Kept) (old mid values : List Value) → begin ≡ length file → old ≡ [] → movie ≡ movie_in boxes
    → AreTracksLooked file 0 (all_in 1 (four_cc_of codes.TRAK) movie) begin old mid left
    → AreKinds file (all_in 1 (four_cc_of codes.TRAK) movie) kept
    → ((id : ℕ) → defaults id ≡ defaults_in file id (trexes boxes))
    → AreMoofsLooked file defaults (kinds_at kept) 0 (all_in 0 (four_cc_of codes.MOOF) boxes) left mid values after
    → AreSampleFaults file boxes values
all_samples file boxes movie defaults begin left after kept old mid values size none is tracks kinds are moofs =
    let these : all_in 1 (four_cc_of codes.TRAK) movie ≡ traks boxes =
    ap (λ (bs : List TreeBox). all_in 1 (four_cc_of codes.TRAK) bs) is in
    let moofs_of = all_in 0 (four_cc_of codes.MOOF) boxes in
    record {
      mid = mid;
      left = left;
      after = after;
      tracks = subst (λ (fs : List Found). AreTracksLooked file 0 fs (length file) [] mid left) these
          (subst (λ (vs : List Value).
          AreTracksLooked file 0 (all_in 1 (four_cc_of codes.TRAK) movie) (length file) vs mid left) none
          (subst (λ (n : ℕ). AreTracksLooked file 0 (all_in 1 (four_cc_of codes.TRAK) movie) n old mid left) size
          tracks));
      moofs = subst (λ (ks : ℕ → List Kind).
          AreMoofsLooked file (λ (id : ℕ). defaults_in file id (trexes boxes)) ks 0 moofs_of left mid values after)
          (fun_ext (λ (id : ℕ). ap (λ (o : Option (List Kind)). unwrap_or o [])
          (kinds id ∙ ap (λ (fs : List Found). kinds_for file id fs) these)))
          (subst (λ (ds : ℕ → Option TrexBox).
          AreMoofsLooked file ds (kinds_at kept) 0 moofs_of left mid values after) (fun_ext are) moofs);
    }
