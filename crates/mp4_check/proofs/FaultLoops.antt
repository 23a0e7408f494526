-- The faults written and the state stored between two tracks, trafs, moofs or indexes.
use Rattle.std.proofs.Common.{◌≡◌, ℕ, Bool, true, false, List, [], ◌∷◌, ◌++◌, None, Some, refl, sym, ap, subst}
use Rattle.std.proofs.Common.{◌∙◌, append_assoc, append-nil}
use Rattle.std.specs.Prelude.{◌&&◌, is_some}
use Rattle.std.specs.BTreeMap.{get}
use Rattle.std.specs.Ordering.{nat_cmp}
use Rattle.std.specs.declared.option.Option.{Option}
use Rattle.mp4_check.specs.FaultValues.{Value, fault_at}
use Rattle.mp4_check.specs.FragmentFaults.{File, IsGoing, Times, faults_of_moofs, faults_of_trafs, fragment_faults}
use Rattle.mp4_check.specs.FragmentFaults.{next_end, next_times, times_after, traf_faults, trafs_of, values_in}
use Rattle.mp4_check.specs.Indexes.{faults_of_indexes, index_faults, index_what}
use Rattle.mp4_content.specs.Paths.{in_file, next}
use Rattle.mp4_check.specs.TrackFaults.{Facts, IsMet, faults_of_tracks, track_faults}
use Rattle.mp4_check.specs.declared.fragments.Going.{Going}
use Rattle.mp4_check.specs.declared.lines.Told.{Told}
use Rattle.mp4_check.specs.declared.tracks.Met.{Met}
use Rattle.mp4_check.proofs.ShownFaults.{Laws, Written, WritesFirst, first_all, first_more, first_none}
use Rattle.mp4_extra_samples.specs.declared.sidx.Sidx.{Sidx}
use Rattle.mp4_frame.specs.FourCC.{four_cc_of}
use Rattle.mp4_frame.specs.Reading.{Reading}
use Rattle.mp4_frame.specs.declared.codes.TheConstants as codes
use Rattle.mp4_frame.specs.declared.four_cc.FourCC.{FourCC}
use Rattle.mp4_lemmas.proofs.Booleans.{by_bool}
use Rattle.mp4_movie.specs.Levels.{Found, all_in, first_in}
use Rattle.mp4_movie.proofs.Levels.{all_from, next_in}
use Rattle.mp4_walk.specs.declared.tree_box.TreeBox.{TreeBox}

-- ---- tracks

-- the faults of the tracks before these are written, and the tracks are stored
pub record TracksSoFar {O : Type 0} (W : Written O) (file : List ℕ) (facts : Facts) (told : Told)
    (movie rest : List TreeBox) (n : ℕ)
    (met : Met) (a b : O) (now : Told) : Type 0 where
  pub earlier : List Found
  pub are : earlier ++ all_in 1 (four_cc_of codes.TRAK) rest ≡ all_in 1 (four_cc_of codes.TRAK) movie
  pub stored : IsMet file earlier met
  pub written : WritesFirst W told
      (faults_of_tracks file facts [] 0 (all_in 1 (four_cc_of codes.TRAK) movie))
      (faults_of_tracks file facts earlier n (all_in 1 (four_cc_of codes.TRAK) rest)) a b now

pub tracks_none : {O : Type 0} (W : Written O) (laws : Laws W) (file : List ℕ) (facts : Facts) (told : Told)
    (movie : List TreeBox) (met : Met)
    (a : O) → IsMet file [] met → TracksSoFar W file facts told movie movie 0 met a a told
tracks_none W laws file facts told movie met a none = record {
  earlier = [];
  are = refl;
  stored = none;
  written = first_none W laws told (faults_of_tracks file facts [] 0 (all_in 1 (four_cc_of codes.TRAK) movie)) a;
}

pub tracks_next : {O : Type 0} (W : Written O) (laws : Laws W) (file : List ℕ) (facts : Facts) (told between now : Told)
    (movie rest : List TreeBox)
    (n m : ℕ) (old new : Met) (a b c : O) (f : Found) (faults : List Value)
    → Some f ≡ first_in 1 (four_cc_of codes.TRAK) rest → m ≡ next n
    → (h : TracksSoFar W file facts told movie rest n old a b between)
    → faults ≡ track_faults file facts h.earlier n f.after → IsMet file (h.earlier ++ f ∷ []) new
    → W between faults b c now → TracksSoFar W file facts told movie f.after m new a c now
tracks_next W laws file facts told between now movie rest n m old new a b c f faults is number h these met more =
    let code = four_cc_of codes.TRAK in
    let left = all_in 1 code f.after in
    let cut : all_in 1 code rest ≡ f ∷ left = next_in 1 code rest (Some f) is in
    let one = track_faults file facts h.earlier n f.after in
    let others = faults_of_tracks file facts (h.earlier ++ f ∷ []) m left in
    record {
      earlier = h.earlier ++ f ∷ [];
      are = append_assoc h.earlier (f ∷ []) left ∙ ap (λ (fs : List Found). h.earlier ++ fs) (sym cut) ∙ h.are;
      stored = met;
      written = first_more W laws told between now
          (faults_of_tracks file facts [] 0 (all_in 1 code movie))
          (faults_of_tracks file facts h.earlier n (all_in 1 code rest)) faults others a b c
          (ap (λ (fs : List Found). faults_of_tracks file facts h.earlier n fs) cut
          ∙ ap (λ (k : ℕ). one ++ faults_of_tracks file facts (h.earlier ++ f ∷ []) k left) (sym number)
          ∙ ap (λ (vs : List Value). vs ++ others) (sym these)) h.written more;
    }

pub tracks_written : {O : Type 0} (W : Written O) (file : List ℕ) (facts : Facts) (told now : Told)
    (movie rest : List TreeBox)
    (n : ℕ) (met : Met) (a b : O) → None ≡ first_in 1 (four_cc_of codes.TRAK) rest
    → TracksSoFar W file facts told movie rest n met a b now
    → W told (faults_of_tracks file facts [] 0 (all_in 1 (four_cc_of codes.TRAK) movie)) a b now
tracks_written W file facts told now movie rest n met a b is h =
    let code = four_cc_of codes.TRAK in
    first_all W told now (faults_of_tracks file facts [] 0 (all_in 1 code movie))
    (faults_of_tracks file facts h.earlier n (all_in 1 code rest)) a b
    (ap (λ (fs : List Found). faults_of_tracks file facts h.earlier n fs) (next_in 1 code rest None is)) h.written

pub tracks_stored : {O : Type 0} (W : Written O) (file : List ℕ) (facts : Facts) (told now : Told)
    (movie rest : List TreeBox)
    (n : ℕ) (met : Met) (a b : O) → None ≡ first_in 1 (four_cc_of codes.TRAK) rest
    → TracksSoFar W file facts told movie rest n met a b now
    → IsMet file (all_in 1 (four_cc_of codes.TRAK) movie) met
tracks_stored W file facts told now movie rest n met a b is h =
    let code = four_cc_of codes.TRAK in
    subst (λ (fs : List Found). IsMet file fs met)
    (sym (append-nil h.earlier)
    ∙ ap (λ (fs : List Found). h.earlier ++ fs) (sym (next_in 1 code rest None is)) ∙ h.are) h.stored

-- ---- trafs

-- the faults of the trafs before these are written, and what goes on is stored
pub record TrafsSoFar {O : Type 0} (W : Written O) (f : File) (told : Told) (moof : Found) (m : ℕ) (times : Times)
    (rest : List TreeBox) (n : ℕ) (going : Going) (a b : O) (now : Told) : Type 0 where
  pub so_far : Times
  pub going_is : IsGoing so_far going.end going
  pub times_are : times_after f moof.box.position going.end so_far (all_in 1 (four_cc_of codes.TRAF) rest)
      ≡ times_after f moof.box.position (Some moof.box.position) times (trafs_of moof)
  pub written : WritesFirst W told
      (faults_of_trafs f m moof.box.position (Some moof.box.position) times 0 (trafs_of moof))
      (faults_of_trafs f m moof.box.position going.end so_far n (all_in 1 (four_cc_of codes.TRAF) rest)) a b now

pub trafs_none : {O : Type 0} (W : Written O) (laws : Laws W) (f : File) (told : Told) (moof : Found) (m : ℕ)
    (times : Times) (old new : Going)
    (a : O) → new.end ≡ Some moof.box.position
    → ((id : ℕ) → get nat_cmp new.times id ≡ get nat_cmp old.times id) → IsGoing times old.end old
    → TrafsSoFar W f told moof m times moof.after 0 new a a told
trafs_none W laws f told moof m times old new a end same going =
    let position = moof.box.position in
    let all = faults_of_trafs f m position (Some position) times 0 (trafs_of moof) in
    record {
      so_far = times;
      going_is = record {
        end_is = refl;
        times_are = λ id. same id ∙ going.times_are id;
      };
      times_are = ap (λ (e : Option ℕ). times_after f position e times (trafs_of moof)) end;
      written = subst (λ (e : Option ℕ).
          WritesFirst W told all (faults_of_trafs f m position e times 0 (trafs_of moof)) a a told)
          (sym end) (first_none W laws told all a);
    }

pub trafs_next : {O : Type 0} (W : Written O) (laws : Laws W) (f : File) (told between now : Told) (moof : Found)
    (m : ℕ) (times : Times)
    (rest : List TreeBox) (n k : ℕ) (old new : Going) (a b c : O) (x : Found) (faults : List Value)
    → Some x ≡ first_in 1 (four_cc_of codes.TRAF) rest → k ≡ next n
    → (h : TrafsSoFar W f told moof m times rest n old a b between)
    → faults ≡ traf_faults f h.so_far m n x (values_in f moof.box.position old.end x)
    → IsGoing (next_times h.so_far (values_in f moof.box.position old.end x))
    (next_end (values_in f moof.box.position old.end x)) new
    → W between faults b c now → TrafsSoFar W f told moof m times x.after k new a c now
trafs_next W laws f told between now moof m times rest n k old new a b c x faults is number h these going more =
    let code = four_cc_of codes.TRAF in
    let position = moof.box.position in
    let left = all_in 1 code x.after in
    let cut : all_in 1 code rest ≡ x ∷ left = next_in 1 code rest (Some x) is in
    let t = values_in f position old.end x in
    let ts = next_times h.so_far t in
    let one = traf_faults f h.so_far m n x t in
    let others = faults_of_trafs f m position new.end ts k left in
    record {
      so_far = ts;
      going_is = record { end_is = refl; times_are = going.times_are };
      times_are = ap (λ (e : Option ℕ). times_after f position e ts left) going.end_is
          ∙ sym (ap (λ (xs : List Found). times_after f position old.end h.so_far xs) cut) ∙ h.times_are;
      written = first_more W laws told between now
          (faults_of_trafs f m position (Some position) times 0 (trafs_of moof))
          (faults_of_trafs f m position old.end h.so_far n (all_in 1 code rest)) faults others a b c
          (ap (λ (xs : List Found). faults_of_trafs f m position old.end h.so_far n xs) cut
          ∙ ap (λ (e : Option ℕ). one ++ faults_of_trafs f m position e ts (next n) left) (sym going.end_is)
          ∙ ap (λ (j : ℕ). one ++ faults_of_trafs f m position new.end ts j left) (sym number)
          ∙ ap (λ (vs : List Value). vs ++ others) (sym these)) h.written more;
    }

pub trafs_written : {O : Type 0} (W : Written O) (f : File) (told now : Told) (moof : Found) (m : ℕ) (times : Times)
    (rest : List TreeBox) (n : ℕ) (going : Going) (a b : O)
    → None ≡ first_in 1 (four_cc_of codes.TRAF) rest → TrafsSoFar W f told moof m times rest n going a b now
    → W told (faults_of_trafs f m moof.box.position (Some moof.box.position) times 0 (trafs_of moof)) a b now
trafs_written W f told now moof m times rest n going a b is h =
    let code = four_cc_of codes.TRAF in
    let position = moof.box.position in
    first_all W told now (faults_of_trafs f m position (Some position) times 0 (trafs_of moof))
    (faults_of_trafs f m position going.end h.so_far n (all_in 1 code rest)) a b
    (ap (λ (xs : List Found). faults_of_trafs f m position going.end h.so_far n xs) (next_in 1 code rest None is))
    h.written

pub trafs_stored : {O : Type 0} (W : Written O) (f : File) (told now : Told) (moof : Found) (m : ℕ) (times : Times)
    (rest : List TreeBox) (n : ℕ) (going : Going) (a b : O)
    → None ≡ first_in 1 (four_cc_of codes.TRAF) rest → TrafsSoFar W f told moof m times rest n going a b now
    → IsGoing (times_after f moof.box.position (Some moof.box.position) times (trafs_of moof)) going.end going
trafs_stored W f told now moof m times rest n going a b is h =
    let code = four_cc_of codes.TRAF in
    subst (λ (ts : Times). IsGoing ts going.end going)
    (sym (ap (λ (xs : List Found). times_after f moof.box.position going.end h.so_far xs) (next_in 1 code rest None is))
    ∙ h.times_are) h.going_is

-- ---- moofs

-- the faults of the moofs before these are written, and their times are stored
pub record MoofsSoFar {O : Type 0} (W : Written O) (f : File) (told : Told) (m : ℕ) (rest : List TreeBox)
    (going : Going)
    (a b : O) (now : Told) : Type 0 where
  pub times : Times
  pub going_is : IsGoing times going.end going
  pub written : WritesFirst W told (fragment_faults f)
      (faults_of_moofs f m times (all_in 0 (four_cc_of codes.MOOF) rest)) a b now

pub moofs_none : {O : Type 0} (W : Written O) (laws : Laws W) (f : File) (told : Told) (boxes : List TreeBox)
    (going : Going) (a : O)
    → f.boxes ≡ boxes → IsGoing [] None going → MoofsSoFar W f told 0 boxes going a a told
moofs_none W laws f told boxes going a same none = record {
  times = [];
  going_is = record { end_is = refl; times_are = none.times_are };
  written = subst
      (λ (bs : List TreeBox). WritesFirst W told (fragment_faults f)
      (faults_of_moofs f 0 [] (all_in 0 (four_cc_of codes.MOOF) bs)) a a told)
      same (first_none W laws told (fragment_faults f) a);
}

pub moofs_next : {O : Type 0} (W : Written O) (laws : Laws W) (f : File) (told between now : Told) (m k : ℕ)
    (rest : List TreeBox) (old new : Going)
    (a b c : O) (x : Found) → Some x ≡ first_in 0 (four_cc_of codes.MOOF) rest → k ≡ next m
    → (h : MoofsSoFar W f told m rest old a b between)
    → IsGoing (times_after f x.box.position (Some x.box.position) h.times (trafs_of x)) new.end new
    → W between (faults_of_trafs f m x.box.position (Some x.box.position) h.times 0 (trafs_of x)) b c now
    → MoofsSoFar W f told k x.after new a c now
moofs_next W laws f told between now m k rest old new a b c x is number h going more =
    let code = four_cc_of codes.MOOF in
    let left = all_in 0 code x.after in
    let cut : all_in 0 code rest ≡ x ∷ left = next_in 0 code rest (Some x) is in
    let position = x.box.position in
    let ts = times_after f position (Some position) h.times (trafs_of x) in
    let one = faults_of_trafs f m position (Some position) h.times 0 (trafs_of x) in
    record {
      times = ts;
      going_is = going;
      written = first_more W laws told between now (fragment_faults f)
          (faults_of_moofs f m h.times (all_in 0 code rest)) one (faults_of_moofs f k ts left) a b c
          (ap (λ (xs : List Found). faults_of_moofs f m h.times xs) cut
          ∙ ap (λ (j : ℕ). one ++ faults_of_moofs f j ts left) (sym number)) h.written more;
    }

pub moofs_written : {O : Type 0} (W : Written O) (f : File) (told now : Told) (m : ℕ) (rest : List TreeBox)
    (going : Going)
    (a b : O) → None ≡ first_in 0 (four_cc_of codes.MOOF) rest
    → MoofsSoFar W f told m rest going a b now → W told (fragment_faults f) a b now
moofs_written W f told now m rest going a b is h =
    let code = four_cc_of codes.MOOF in
    first_all W told now (fragment_faults f) (faults_of_moofs f m h.times (all_in 0 code rest)) a b
    (ap (λ (xs : List Found). faults_of_moofs f m h.times xs) (next_in 0 code rest None is)) h.written

-- ---- indexes

pub indexes_next : {O : Type 0} (W : Written O) (laws : Laws W) (reads : List ℕ → ℕ → ℕ → Reading Sidx) (file : List ℕ)
    (told between now : Told)
    (boxes : List TreeBox) (size : ℕ) (all : List Value) (rest : List TreeBox) (n m : ℕ) (x : Found)
    (faults : List Value) (a b c : O) → Some x ≡ first_in 0 (four_cc_of codes.SIDX) rest → m ≡ next n
    → WritesFirst W told all
    (faults_of_indexes reads file boxes size n (all_in 0 (four_cc_of codes.SIDX) rest)) a b between
    → faults ≡ fault_at x.box.position (in_file codes.SIDX n) (index_what reads file boxes size x.box)
    → W between faults b c now
    → WritesFirst W told all
    (faults_of_indexes reads file boxes size m (all_in 0 (four_cc_of codes.SIDX) x.after)) a c now
indexes_next W laws reads file told between now boxes size all rest n m x faults a b c is number first these more =
    let code = four_cc_of codes.SIDX in
    let left = all_in 0 code x.after in
    let cut : all_in 0 code rest ≡ x ∷ left = next_in 0 code rest (Some x) is in
    let one = fault_at x.box.position (in_file codes.SIDX n) (index_what reads file boxes size x.box) in
    let others = faults_of_indexes reads file boxes size m left in
    first_more W laws told between now all (faults_of_indexes reads file boxes size n (all_in 0 code rest)) faults
    others
    a b c
    (ap (λ (xs : List Found). faults_of_indexes reads file boxes size n xs) cut
    ∙ ap (λ (j : ℕ). one ++ faults_of_indexes reads file boxes size j left) (sym number)
    ∙ ap (λ (vs : List Value). vs ++ others) (sym these)) first more

pub indexes_written : {O : Type 0} (W : Written O) (reads : List ℕ → ℕ → ℕ → Reading Sidx) (file : List ℕ)
    (told now : Told)
    (boxes : List TreeBox) (size : ℕ) (all : List Value) (rest : List TreeBox) (n : ℕ) (a b : O)
    → None ≡ first_in 0 (four_cc_of codes.SIDX) rest
    → WritesFirst W told all
    (faults_of_indexes reads file boxes size n (all_in 0 (four_cc_of codes.SIDX) rest)) a b now
    → W told all a b now
indexes_written W reads file told now boxes size all rest n a b is first =
    let code = four_cc_of codes.SIDX in
    first_all W told now all (faults_of_indexes reads file boxes size n (all_in 0 code rest)) a b
    (ap (λ (xs : List Found). faults_of_indexes reads file boxes size n xs) (next_in 0 code rest None is)) first

none_from : (d : ℕ) (code : FourCC) (o : Option Found) → is_some o ≡ false → all_from d code o ≡ []
none_from d code None none = refl
none_from d code (Some f) none = absurd cc

left_true : (a b : Bool) → (a && b) ≡ true → a ≡ true
left_true true b h = refl
left_true false b h = absurd cc

-- A file without fragments or without indexes has no faults of indexes.
pub no_indexes : (reads : List ℕ → ℕ → ℕ → Reading Sidx) (file : List ℕ) (boxes : List TreeBox) (size : ℕ)
    → (is_some (first_in 0 (four_cc_of codes.MOOF) boxes) && is_some (first_in 0 (four_cc_of codes.SIDX) boxes)) ≡ false
    → index_faults reads file boxes size ≡ []
no_indexes reads file boxes size none =
    let code = four_cc_of codes.SIDX in
    by_bool (is_some (first_in 0 (four_cc_of codes.MOOF) boxes))
    (λ yes.
    let without : is_some (first_in 0 code boxes) ≡ false =
    sym (ap (λ (b : Bool). b && is_some (first_in 0 code boxes)) yes) ∙ none in
    rw yes (ap (λ (fs : List Found). faults_of_indexes reads file boxes size 0 fs)
    (next_in 0 code boxes (first_in 0 code boxes) refl ∙ none_from 0 code (first_in 0 code boxes) without)))
    (λ no. rw no refl)

-- The faults of the indexes of a file with fragments.
pub with_indexes : (reads : List ℕ → ℕ → ℕ → Reading Sidx) (file : List ℕ) (boxes : List TreeBox) (size : ℕ)
    → (is_some (first_in 0 (four_cc_of codes.MOOF) boxes) && is_some (first_in 0 (four_cc_of codes.SIDX) boxes)) ≡ true
    → faults_of_indexes reads file boxes size 0 (all_in 0 (four_cc_of codes.SIDX) boxes)
    ≡ index_faults reads file boxes size
with_indexes reads file boxes size some =
    let yes = left_true (is_some (first_in 0 (four_cc_of codes.MOOF) boxes))
    (is_some (first_in 0 (four_cc_of codes.SIDX) boxes)) some in
    rw yes refl
