-- The splices and the spans of a movie box after edits, one after the other.
use Rattle.std.proofs.Common.{ℕ, ◌+◌, ◌<◌, ◌≤◌, List, [], ◌∷◌, ◌++◌, take, drop, length, get_or}
use Rattle.std.proofs.Common.{sym, subst}
use Rattle.std.proofs.lemmas.List.{drop_all, drop_more, take_all, take_more}
use Rattle.std.specs.List.{AllZip}
use Rattle.mp4_remux.proofs.Splicing.{zip_push}
use Rattle.mp4_remux_files.specs.EditedMovie.{AreApart}
use Rattle.mp4_remux_files.specs.declared.edited.Span.{Span}

module _ {X Y : Type 0} (R : X → Y → Type 0) (xs : List X) (ys : List Y) (i : ℕ) where
  -- one more pair is related
  pub pairs_more : (d : X) (e : Y) → i < length xs → i < length ys → AllZip R (take i xs) (take i ys)
      → R (get_or xs i d) (get_or ys i e) → AllZip R (take (i + 1) xs) (take (i + 1) ys)
  pairs_more d e one other so_far here =
      let x = get_or xs i d in
      let y = get_or ys i e in
      subst (λ (l : List X). AllZip R l (take (i + 1) ys)) (sym (take_more xs i d one))
      (subst (λ (l : List Y). AllZip R (take i xs ++ x ∷ []) l) (sym (take_more ys i e other))
      (zip_push R (take i xs) (take i ys) x y so_far here))

  -- all pairs are
  pub pairs_end : length xs ≤ i → length ys ≤ i → AllZip R (take i xs) (take i ys) → AllZip R xs ys
  pairs_end one other so_far =
      subst (λ (l : List X). AllZip R l ys) (take_all i xs one)
      (subst (λ (l : List Y). AllZip R (take i xs) l) (take_all i ys other) so_far)

-- the next span is after the one before
pub apart_more : (at : ℕ) (ts : List Span) (i : ℕ) (d : Span) → i < length ts → at ≤ (get_or ts i d).begin
    → AreApart (get_or ts i d).end (drop (i + 1) ts) → AreApart at (drop i ts)
apart_more at ts i d within low rest =
    subst (λ (us : List Span). AreApart at us) (sym (drop_more ts i d within)) (low, rest)

pub apart_none : (at : ℕ) (ts : List Span) (i : ℕ) → length ts ≤ i → AreApart at (drop i ts)
apart_none at ts i gone = subst (λ (us : List Span). AreApart at us) (sym (drop_all i ts gone)) tt
