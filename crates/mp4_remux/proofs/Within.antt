-- The pieces of a list one at a time.
use Rattle.std.proofs.Common.{◌≡◌, ℕ, suc, ◌+◌, ◌<◌, ◌≤◌, inl, inr, List, ◌∷◌, length, drop, sym, ap, ◌∙◌, subst, arith}
use Rattle.std.specs.Prelude.{slice_index_or}
use Rattle.std.proofs.lemmas.Bool.{cases_lt}
use Rattle.std.proofs.lemmas.List.{drop_more, get_or_default}
use Rattle.mp4_remux.specs.declared.pieces.piece.Piece.{Piece}
use Rattle.mp4_remux.specs.Pieces.{IsWithin, AreWithin}

-- piece i and those after it
pub here : (ps : List Piece) (i : ℕ) (p : Piece) → i < length ps → p ≡ slice_index_or ps i p
    → drop i ps ≡ p ∷ drop (i + 1) ps
here ps i p lt is = drop_more ps i p lt ∙ ap (λ (x : Piece). x ∷ drop (i + 1) ps) (sym is)

pub head_within : (n : ℕ) (p : Piece) (ps : List Piece) → AreWithin n (p ∷ ps) → IsWithin n p
head_within n p ps all = all 0 p (omega arith)

pub tail_within : (n : ℕ) (p : Piece) (ps : List Piece) → AreWithin n (p ∷ ps) → AreWithin n ps
tail_within n p ps all = λ k d lt. all (suc k) d (omega arith)

-- the first i pieces are within
pub AreFirstWithin : ℕ → List Piece → ℕ → Type 0
AreFirstWithin n ps i = (k : ℕ) (d : Piece) → k < i → IsWithin n (slice_index_or ps k d)

pub none_first : (n : ℕ) (ps : List Piece) → AreFirstWithin n ps 0
unfolding AreFirstWithin
none_first n ps = λ k d lt. absurd (omega arith)

pub one_within : (n : ℕ) (ps : List Piece) (i : ℕ) (p : Piece) → i < length ps → p ≡ slice_index_or ps i p
    → AreWithin n ps → IsWithin n p
one_within n ps i p lt is all = subst (IsWithin n) (sym is) (all i p lt)

pub one_more : (n : ℕ) (ps : List Piece) (i : ℕ) (p : Piece) → i < length ps → p ≡ slice_index_or ps i p
    → IsWithin n p → AreFirstWithin n ps i → AreFirstWithin n ps (i + 1)
unfolding AreFirstWithin
one_more n ps i p lt is here all = λ k d less.
    elim (cases_lt k i) [
      | inl before ↦ all k d before
      | inr after ↦
          let at : i ≡ k = omega arith in
          subst (λ (x : Piece). IsWithin n x)
          (is ∙ get_or_default ps i p d lt ∙ ap (λ (j : ℕ). slice_index_or ps j d) at) here
    ]

pub all_within : (n : ℕ) (ps : List Piece) (i : ℕ) → length ps ≤ i → AreFirstWithin n ps i → AreWithin n ps
unfolding AreFirstWithin
all_within n ps i le all = λ k d lt. all k d (omega arith)
