-- The splices of the top level and those in a movie box, one after the other.
use Rattle.std.proofs.Common.{◌≡◌, ℕ, Bool, true, false, cond, List, [], ◌∷◌, ◌++◌, sym, ap, subst, ◌∙◌}
use Rattle.std.proofs.lemmas.List.{append-nil}
use Rattle.std.proofs.lemmas.List.Elements.{filter-append}
use Rattle.std.specs.List.{AllZip}
use Rattle.std.specs.Prelude.{filter, not}
use Rattle.mp4_remux.proofs.Splicing.{zip_push}
use Rattle.mp4_remux.specs.Splices.{is_top}
use Rattle.mp4_remux.specs.declared.edits.splice.Splice.{Splice}
use Rattle.mp4_remux_files.specs.EditedFile.{IsInner}

module _ (p : Splice → Bool) (ss : List Splice) (s : Splice) where
  one_filtered : (b : Bool) → p s ≡ b → filter p (ss ++ s ∷ []) ≡ filter p ss ++ cond b (s ∷ []) []
  one_filtered b test =
      filter-append p ss (s ∷ []) ∙ ap (λ (c : Bool). filter p ss ++ cond c (s ∷ []) []) test

  -- the next splice passes the test
  pub passes_more : p s ≡ true → filter p (ss ++ s ∷ []) ≡ filter p ss ++ s ∷ []
  passes_more test = one_filtered true test

  -- it doesn't pass
  pub passes_same : p s ≡ false → filter p (ss ++ s ∷ []) ≡ filter p ss
  passes_same test = one_filtered false test ∙ append-nil (filter p ss)

-- the next splice is not of the top level
pub inner_more : (b e : ℕ) (ss ts us : List Splice) (s t : Splice) → is_top s ≡ false → us ≡ ts ++ t ∷ []
    → IsInner b e s t → AllZip (IsInner b e) (filter (λ r. not (is_top r)) ss) ts
    → AllZip (IsInner b e) (filter (λ r. not (is_top r)) (ss ++ s ∷ [])) us
inner_more b e ss ts us s t deep more here so_far =
    subst (λ (vs : List Splice). AllZip (IsInner b e) (filter (λ r. not (is_top r)) (ss ++ s ∷ [])) vs) (sym more)
    (subst (λ (rs : List Splice). AllZip (IsInner b e) rs (ts ++ t ∷ []))
    (sym (passes_more (λ r. not (is_top r)) ss s (ap not deep)))
    (zip_push (IsInner b e) (filter (λ r. not (is_top r)) ss) ts s t so_far here))
