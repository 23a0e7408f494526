-- A decimal, without the zero after the point of a whole number.
use Rattle.std.proofs.Common.{◌≡◌, ◌≢◌, ℕ, ◌-◌, Bool, false, List, ◌++◌, length, take, cond, refl, sym, ap, ◌∙◌, ⊎_elim}
use Rattle.std.proofs.lemmas.Bool.{cases_Bool}
use Rattle.std.proofs.lemmas.Bool.Decides.{Decides-eqb}
use Rattle.std.proofs.lemmas.Slice.Eq.{ends_is}
use Rattle.std.specs.List.{ends_with}
use Rattle.std.specs.Prelude.{codes, nat_eq}
use Rattle.mp4_show.specs.Texts.{float_shown}

-- the decimal of a whole number
pub whole_shown : (text front : List ℕ) (n : ℕ) → n ≡ 2 → text ≡ take (length text - n) text ++ codes ".0"
    → front ≡ take (length text - n) text → front ≡ float_shown text
whole_shown text front n two ends cut =
    let whole = (ends_is Decides-eqb text (codes ".0") _ refl).1 (take (length text - n) text) ends in
    cut
    ∙ ap (λ (k : ℕ). take (length text - k) text) two
    ∙ ap (λ (b : Bool). cond b (take (length text - 2) text) text) (sym whole)

-- another decimal
pub other_shown : (text : List ℕ) → ((front : List ℕ) → text ≢ front ++ codes ".0") → text ≡ float_shown text
other_shown text none =
    let ended = ends_with nat_eq text (codes ".0") in
    let other : ended ≡ false =
    ⊎_elim (λ e. absurd (none _ ((ends_is Decides-eqb text (codes ".0") _ refl).0 e))) (λ e. e) (cases_Bool ended) in
    ap (λ (b : Bool). cond b (take (length text - 2) text) text) (sym other)
