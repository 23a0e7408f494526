-- The fragments of a track among the answers for all trafs, taken one after the other.
use Rattle.std.proofs.Common.{◌≡◌, ℕ, Bool, true, false, List, [], ◌∷◌, ◌++◌, Result, Ok, Err, None, Some, refl, sym}
use Rattle.std.proofs.Common.{ap, subst, ◌∙◌, append_assoc, append-nil, inl, inr}
use Rattle.std.specs.Prelude.{◌==◌, IfSome, if◌then◌else◌}
use Rattle.std.specs.declared.option.Option.{Option}
use Rattle.mp4_c.specs.FragmentSamples.{AppendsOwn, StopsAt, answers_of, concerns, error_in, own_of}
use Rattle.mp4_movie.specs.declared.error.BoxError.{BoxError}
use Rattle.mp4_movie.specs.declared.moof.MoofFragments.{MoofFragments}
use Rattle.mp4_movie.specs.declared.track_fragment.TrackFragment.{TrackFragment}

no_some : {A : Type 0} (v : A) → None ≡ Some v → ⊥
no_some {A} v is = subst (λ (o : Option A). IfSome o (λ _. ⊥)) is tt

one_or_none : (b : Bool) (x : TrackFragment) (us vs : List TrackFragment)
    → (if b then x ∷ (us ++ vs) else us ++ vs) ≡ (if b then x ∷ us else us) ++ vs
one_or_none true x us vs = refl
one_or_none false x us vs = refl

pub own_more : (id : ℕ) (xs ys : List (Result TrackFragment BoxError)) → own_of id (xs ++ ys)
    ≡ own_of id xs ++ own_of id ys
own_more id [] ys = refl
own_more id (Ok x ∷ rs) ys =
    ap (λ (zs : List TrackFragment). if x.header.track_id == id then x ∷ zs else zs) (own_more id rs ys)
    ∙ one_or_none (x.header.track_id == id) x (own_of id rs) (own_of id ys)
own_more id (Err e ∷ rs) ys = own_more id rs ys

passed_over : (b : Bool) (e : BoxError) (r s t : Option BoxError) → (if b then Some e else r) ≡ None
    → (r ≡ None → s ≡ t) → (if b then Some e else s) ≡ t
passed_over true e r s t is on = absurd (no_some e (sym is))
passed_over false e r s t is on = on is

-- if no answer concerns the track, those after them decide
pub error_after : (id : ℕ) (xs ys : List (Result TrackFragment BoxError)) → error_in id xs ≡ None
    → error_in id (xs ++ ys) ≡ error_in id ys
error_after id [] ys none = refl
error_after id (Ok x ∷ rs) ys none = error_after id rs ys none
error_after id (Err e ∷ rs) ys none =
    passed_over (concerns id e) e (error_in id rs) (error_in id (rs ++ ys)) (error_in id ys) none
    (λ h. error_after id rs ys h)

kept_first : (b : Bool) (e f : BoxError) (r s : Option BoxError) → (if b then Some e else r) ≡ Some f
    → (r ≡ Some f → s ≡ Some f) → (if b then Some e else s) ≡ Some f
kept_first true e f r s is on = is
kept_first false e f r s is on = on is

-- the first error is that of all answers
pub error_before : (id : ℕ) (xs ys : List (Result TrackFragment BoxError)) (f : BoxError) → error_in id xs ≡ Some f
    → error_in id (xs ++ ys) ≡ Some f
error_before id [] ys f is = absurd (no_some f is)
error_before id (Ok x ∷ rs) ys f is = error_before id rs ys f is
error_before id (Err e ∷ rs) ys f is =
    kept_first (concerns id e) e f (error_in id rs) (error_in id (rs ++ ys)) is (λ h. error_before id rs ys f h)

-- more answers
pub appends_more : (id : ℕ) (xs ys : List (Result TrackFragment BoxError)) (old mid new : List TrackFragment)
    → AppendsOwn id xs old mid → AppendsOwn id ys mid new → AppendsOwn id (xs ++ ys) old new
appends_more id xs ys old mid new before here = record {
  no_error = error_after id xs ys before.no_error ∙ here.no_error;
  own = here.own ∙ ap (λ (fs : List TrackFragment). fs ++ own_of id ys) before.own
      ∙ append_assoc old (own_of id xs) (own_of id ys)
      ∙ ap (λ (fs : List TrackFragment). old ++ fs) (sym (own_more id xs ys));
}

-- an answer that stops the search, after others that don't
pub stops_after : (id : ℕ) (xs ys zs all : List (Result TrackFragment BoxError)) (old mid : List TrackFragment)
    (status : ℕ) → AppendsOwn id xs old mid → StopsAt id ys status → all ≡ (xs ++ ys) ++ zs → StopsAt id all status
stops_after id xs ys zs all old mid status before (inl memory) is = inl memory
stops_after id xs ys zs all old mid status before (inr (e, (found, shows))) is =
    let first : error_in id all ≡ Some e = ap (λ (rs : List (Result TrackFragment BoxError)). error_in id rs) is
    ∙ error_before id (xs ++ ys) zs e (error_after id xs ys before.no_error ∙ found) in inr (e, (first, shows))

pub answers_more : (ms ns : List MoofFragments) → answers_of (ms ++ ns) ≡ answers_of ms ++ answers_of ns
answers_more [] ns = refl
answers_more (m ∷ ms) ns =
    ap (λ (rs : List (Result TrackFragment BoxError)). m.fragments.items ++ rs) (answers_more ms ns)
    ∙ sym (append_assoc m.fragments.items (answers_of ms) (answers_of ns))

pub one_moof : (m : MoofFragments) → answers_of (m ∷ []) ≡ m.fragments.items
one_moof m = append-nil m.fragments.items
