-- The trafs of tracks, stored one after the other.
use Rattle.std.proofs.Common.{◌≡◌, ℕ, List, [], ◌∷◌, ◌++◌, None, Some, Result, refl, sym, ap, subst, ◌∙◌}
use Rattle.std.proofs.Common.{append_assoc, append-nil, length, arith}
use Rattle.std.proofs.lemmas.Grind.{flat_map-append}
use Rattle.std.specs.Prelude.{◌==◌, if◌then◌else◌}
use Rattle.std.specs.declared.option.Option.{Option}
use Rattle.mp4_frame.specs.FourCC.{four_cc_of}
use Rattle.mp4_frame.specs.declared.codes.TheConstants as codes
use Rattle.mp4_lemmas.proofs.Booleans.{by_bool}
use Rattle.mp4_movie.proofs.Levels.{next_in}
use Rattle.mp4_movie.specs.Levels.{Found, all_in, first_in}
use Rattle.mp4_movie.specs.declared.error.BoxError.{BoxError}
use Rattle.mp4_movie.specs.declared.moof.MoofFragments.{MoofFragments}
use Rattle.mp4_movie.specs.declared.track_fragment.TrackFragment.{TrackFragment}
use Rattle.mp4_walk.specs.declared.tree_box.TreeBox.{TreeBox}
use Rattle.mp4_inspect_samples.specs.Trafs.{AreStored, Enters, Traf, added, header_faults, is_id, list_of, stored_for}
use Rattle.mp4_inspect_samples.specs.Trafs.{traf_at, trafs_in, trafs_of_moof, trafs_of_moofs, unknown_fault, with_id}
use Rattle.mp4_inspect_samples.specs.declared.fault.TrackFault.{TrackFault}
use Rattle.mp4_inspect_samples.specs.declared.fragments.Fragments.{Fragments}
use Rattle.mp4_inspect_samples.specs.declared.fragments.TrackTraf.{TrackTraf}

pub with_id_append : (q : ℕ) (xs ys : List Traf) → with_id q (xs ++ ys) ≡ with_id q xs ++ with_id q ys
with_id_append q [] ys = refl
with_id_append q (x ∷ xs) ys =
    by_bool (is_id q x.id)
    (λ yes. rw yes (ap (λ (ts : List TrackTraf). x.stored ∷ ts) (with_id_append q xs ys)))
    (λ no. rw no (with_id_append q xs ys))

added_append : (o : Option (List TrackTraf)) (xs ys : List TrackTraf) → added (added o xs) ys ≡ added o (xs ++ ys)
added_append o [] ys = refl
added_append o (x ∷ xs) [] =
    ap (λ (ts : List TrackTraf). let r : Option (List TrackTraf) = Some (list_of o ++ x ∷ ts) in r)
    (sym (append-nil xs))
added_append o (x ∷ xs) (y ∷ ys) =
    ap (λ (ts : List TrackTraf). let r : Option (List TrackTraf) = Some ts in r)
    (append_assoc (list_of o) (x ∷ xs) (y ∷ ys))

pub enters_none : (f : Fragments) (told : List TrackFault) → Enters [] f f told told
enters_none f told = record { stored = λ q. refl; told = sym (append-nil told) }

pub enters_more : (xs ys : List Traf) (f g h : Fragments) (a b c : List TrackFault) → Enters xs f g a b
    → Enters ys g h b c → Enters (xs ++ ys) f h a c
enters_more xs ys f g h a b c one two = record {
  stored = λ q.
      two.stored q
      ∙ ap (λ (o : Option (List TrackTraf)). added o (with_id q ys)) (one.stored q)
      ∙ added_append (stored_for f q) (with_id q xs) (with_id q ys)
      ∙ ap (λ (ts : List TrackTraf). added (stored_for f q) ts) (sym (with_id_append q xs ys));
  told =
      two.told
      ∙ ap (λ (ts : List TrackFault). ts ++ header_faults ys) one.told
      ∙ append_assoc a (header_faults xs) (header_faults ys)
      ∙ ap (λ (ts : List TrackFault). a ++ ts)
      (sym (flat_map-append (λ (x : Traf). unknown_fault x.moof x.id x.stored.fragment) xs ys));
}

-- a traf whose track_ID is known is stored
pub entered_some : (moof track : ℕ) (id : Option ℕ) (t : TrackTraf) (f g : Fragments) (told : List TrackFault)
    → id ≡ Some track
    → ((q : ℕ) → stored_for g q ≡ added (stored_for f q) (if track == q then t ∷ [] else []))
    → Enters (record { moof = moof; id = id; stored = t } ∷ []) f g told told
entered_some moof track id t f g told is stored =
    subst (λ (o : Option ℕ). Enters (record { moof = moof; id = o; stored = t } ∷ []) f g told told) (sym is)
    (record { stored = stored; told = sym (append-nil told) })

-- the fault of a traf whose track_ID is unknown is stored
pub entered_none : (moof : ℕ) (id : Option ℕ) (t : TrackTraf) (f : Fragments) (old new : List TrackFault)
    → id ≡ None → new ≡ old ++ unknown_fault moof None t.fragment
    → Enters (record { moof = moof; id = id; stored = t } ∷ []) f f old new
entered_none moof id t f old new is told =
    subst (λ (o : Option ℕ). Enters (record { moof = moof; id = o; stored = t } ∷ []) f f old new) (sym is)
    (record {
      stored = λ q. refl;
      told = told ∙ ap (λ (ts : List TrackFault). old ++ ts) (sym (append-nil (unknown_fault moof None t.fragment)));
    })

-- ---- the trafs of a moof

-- the trafs that are left are entered after those of the moof before them
abbrev pub TrafsSoFar : List ℕ → ℕ → List TreeBox → List (Result TrackFragment BoxError) → Fragments → List TrackFault
    → List TreeBox → List (Result TrackFragment BoxError) → Fragments → List TrackFault → Type 0
TrafsSoFar file moof boxes answers f a rest left g b =
    (h : Fragments) (c : List TrackFault)
    → Enters (trafs_in file moof (all_in 1 (four_cc_of codes.TRAF) rest) left) g h b c
    → Enters (trafs_in file moof (all_in 1 (four_cc_of codes.TRAF) boxes) answers) f h a c

no_answers : (file : List ℕ) (moof : ℕ) (fs : List Found) → trafs_in file moof fs [] ≡ []
no_answers file moof [] = refl
no_answers file moof (f ∷ fs) = refl

pub trafs_start : (file : List ℕ) (moof : ℕ) (boxes : List TreeBox)
    (answers left : List (Result TrackFragment BoxError)) (f : Fragments) (a : List TrackFault) → left ≡ answers
    → TrafsSoFar file moof boxes answers f a boxes left f a
trafs_start file moof boxes answers left f a is = λ h c e.
    subst (λ (rs : List (Result TrackFragment BoxError)).
    Enters (trafs_in file moof (all_in 1 (four_cc_of codes.TRAF) boxes) rs) f h a c) is e

pub trafs_next : (file : List ℕ) (moof : ℕ) (boxes rest : List TreeBox)
    (answers left more : List (Result TrackFragment BoxError)) (r : Result TrackFragment BoxError) (x : Found)
    (f g g2 : Fragments) (a b b2 : List TrackFault) → Some x ≡ first_in 1 (four_cc_of codes.TRAF) rest → left ≡ r ∷ more
    → Enters (traf_at file moof x.after r ∷ []) g g2 b b2 → TrafsSoFar file moof boxes answers f a rest left g b
    → TrafsSoFar file moof boxes answers f a x.after more g2 b2
trafs_next file moof boxes rest answers left more r x f g g2 a b b2 is cut one known = λ h c e.
    let code = four_cc_of codes.TRAF in
    let all : all_in 1 code rest ≡ x ∷ all_in 1 code x.after = next_in 1 code rest (Some x) is in
    let same : trafs_in file moof (all_in 1 code rest) left
    ≡ traf_at file moof x.after r ∷ trafs_in file moof (all_in 1 code x.after) more =
    ap (λ (fs : List Found). trafs_in file moof fs left) all
    ∙ ap (λ (rs : List (Result TrackFragment BoxError)). trafs_in file moof (x ∷ all_in 1 code x.after) rs) cut in
    known h c
    (subst (λ (ts : List Traf). Enters ts g h b c) (sym same)
    (enters_more (traf_at file moof x.after r ∷ []) (trafs_in file moof (all_in 1 code x.after) more) g g2 h b b2 c one
    e))

-- no answer is left
pub trafs_answered : (file : List ℕ) (moof : ℕ) (boxes rest : List TreeBox)
    (answers left : List (Result TrackFragment BoxError)) (f g : Fragments) (a b : List TrackFault) → left ≡ []
    → TrafsSoFar file moof boxes answers f a rest left g b
    → Enters (trafs_in file moof (all_in 1 (four_cc_of codes.TRAF) boxes) answers) f g a b
trafs_answered file moof boxes rest answers left f g a b none known =
    let fs = all_in 1 (four_cc_of codes.TRAF) rest in
    known g b
    (subst (λ (ts : List Traf). Enters ts g g b b)
    (sym (ap (λ (rs : List (Result TrackFragment BoxError)). trafs_in file moof fs rs) none
    ∙ no_answers file moof fs)) (enters_none g b))

-- no traf is left
pub trafs_end : (file : List ℕ) (moof : ℕ) (boxes rest : List TreeBox)
    (answers left : List (Result TrackFragment BoxError)) (f g : Fragments) (a b : List TrackFault)
    → None ≡ first_in 1 (four_cc_of codes.TRAF) rest → TrafsSoFar file moof boxes answers f a rest left g b
    → Enters (trafs_in file moof (all_in 1 (four_cc_of codes.TRAF) boxes) answers) f g a b
trafs_end file moof boxes rest answers left f g a b is known =
    known g b
    (subst (λ (ts : List Traf). Enters ts g g b b)
    (sym (ap (λ (fs : List Found). trafs_in file moof fs left)
    (next_in 1 (four_cc_of codes.TRAF) rest None is))) (enters_none g b))

-- ---- the moofs of a file

abbrev pub MoofsSoFar : List ℕ → List TreeBox → List MoofFragments → Fragments → List TrackFault → List TreeBox
    → List MoofFragments → Fragments → List TrackFault → Type 0
MoofsSoFar file boxes moofs f a rest left g b =
    (h : Fragments) (c : List TrackFault)
    → Enters (trafs_of_moofs file (all_in 0 (four_cc_of codes.MOOF) rest) left) g h b c
    → Enters (trafs_of_moofs file (all_in 0 (four_cc_of codes.MOOF) boxes) moofs) f h a c

no_moofs : (file : List ℕ) (fs : List Found) → trafs_of_moofs file fs [] ≡ []
no_moofs file [] = refl
no_moofs file (f ∷ fs) = refl

pub moofs_start : (file : List ℕ) (boxes : List TreeBox) (moofs left : List MoofFragments) (f : Fragments)
    (a : List TrackFault) → left ≡ moofs → MoofsSoFar file boxes moofs f a boxes left f a
moofs_start file boxes moofs left f a is = λ h c e.
    subst (λ (ms : List MoofFragments).
    Enters (trafs_of_moofs file (all_in 0 (four_cc_of codes.MOOF) boxes) ms) f h a c) is e

pub moofs_next : (file : List ℕ) (boxes rest : List TreeBox) (moofs left more : List MoofFragments)
    (m : MoofFragments) (x : Found) (f g g2 : Fragments) (a b b2 : List TrackFault)
    → Some x ≡ first_in 0 (four_cc_of codes.MOOF) rest → left ≡ m ∷ more
    → Enters (trafs_of_moof file x m) g g2 b b2 → MoofsSoFar file boxes moofs f a rest left g b
    → MoofsSoFar file boxes moofs f a x.after more g2 b2
moofs_next file boxes rest moofs left more m x f g g2 a b b2 is cut one known = λ h c e.
    let code = four_cc_of codes.MOOF in
    let all : all_in 0 code rest ≡ x ∷ all_in 0 code x.after = next_in 0 code rest (Some x) is in
    let same : trafs_of_moofs file (all_in 0 code rest) left
    ≡ trafs_of_moof file x m ++ trafs_of_moofs file (all_in 0 code x.after) more =
    ap (λ (fs : List Found). trafs_of_moofs file fs left) all
    ∙ ap (λ (ms : List MoofFragments). trafs_of_moofs file (x ∷ all_in 0 code x.after) ms) cut in
    known h c
    (subst (λ (ts : List Traf). Enters ts g h b c) (sym same)
    (enters_more (trafs_of_moof file x m) (trafs_of_moofs file (all_in 0 code x.after) more) g g2 h b b2 c one e))

pub moofs_answered : (file : List ℕ) (boxes rest : List TreeBox) (moofs left : List MoofFragments)
    (f g : Fragments) (a b : List TrackFault) → left ≡ [] → MoofsSoFar file boxes moofs f a rest left g b
    → Enters (trafs_of_moofs file (all_in 0 (four_cc_of codes.MOOF) boxes) moofs) f g a b
moofs_answered file boxes rest moofs left f g a b none known =
    let fs = all_in 0 (four_cc_of codes.MOOF) rest in
    known g b
    (subst (λ (ts : List Traf). Enters ts g g b b)
    (sym (ap (λ (ms : List MoofFragments). trafs_of_moofs file fs ms) none ∙ no_moofs file fs)) (enters_none g b))

pub moofs_end : (file : List ℕ) (boxes rest : List TreeBox) (moofs left : List MoofFragments) (f g : Fragments)
    (a b : List TrackFault) → None ≡ first_in 0 (four_cc_of codes.MOOF) rest
    → MoofsSoFar file boxes moofs f a rest left g b
    → Enters (trafs_of_moofs file (all_in 0 (four_cc_of codes.MOOF) boxes) moofs) f g a b
moofs_end file boxes rest moofs left f g a b is known =
    known g b
    (subst (λ (ts : List Traf). Enters ts g g b b)
    (sym (ap (λ (fs : List Found). trafs_of_moofs file fs left)
    (next_in 0 (four_cc_of codes.MOOF) rest None is))) (enters_none g b))

-- the trafs that are entered first are all that are stored
pub all_stored : (trafs : List Traf) (f g : Fragments) (a b : List TrackFault) → ((q : ℕ) → stored_for f q ≡ None)
    → Enters trafs f g a b → AreStored trafs g
all_stored trafs f g a b none entered = λ q.
    entered.stored q ∙ ap (λ (o : Option (List TrackTraf)). added o (with_id q trafs)) (none q)

-- a list without items
pub none_left : {A : Type 0} (xs : List A) (n : ℕ) → n ≡ length xs → n ≡ 0 → xs ≡ []
none_left [] n is none = refl
none_left (x ∷ xs) n is none = absurd (omega (arith, is, none))
