-- Extents in the order of the file.
use Rattle.std.proofs.Common.{◌≡◌, ℕ, zero, suc, ◌+◌, ◌<◌, ◌≤◌, true, false, List, [], ◌∷◌, length, get_or, Some}
use Rattle.std.proofs.Common.{drop, leb, refl, subst, sym, arith}
use Rattle.std.specs.declared.option.Option.{Option}
use Rattle.std.proofs.lemmas.Bool.{le-leb, lt-leb}
use Rattle.std.proofs.lemmas.List.{drop_all, drop_more}
use Rattle.mp4_check.specs.Media.{AreInOrder, media_at}
use Rattle.mp4_check.specs.declared.extent.Extent.{Extent}

from_first : (n : ℕ) (es : List Extent) (k : ℕ) (d : Extent) → AreInOrder n es → k < length es
    → n ≤ (get_or es k d).begin
from_first n [] k d order lt = absurd (omega arith)
from_first n (m ∷ ms) zero d order lt = order.0
from_first n (m ∷ ms) (suc k) d order lt = omega (arith, order.0, from_first m.begin ms k d order.1 (omega arith))

-- A later extent begins no sooner than an earlier one.
pub begins_in_order : (n : ℕ) (es : List Extent) (j k : ℕ) (d : Extent) → AreInOrder n es → j ≤ k → k < length es
    → (get_or es j d).begin ≤ (get_or es k d).begin
begins_in_order n [] j k d order le lt = absurd (omega arith)
begins_in_order n (m ∷ ms) zero zero d order le lt = omega arith
begins_in_order n (m ∷ ms) zero (suc k) d order le lt = from_first m.begin ms k d order.1 (omega arith)
begins_in_order n (m ∷ ms) (suc j) zero d order le lt = absurd (omega arith)
begins_in_order n (m ∷ ms) (suc j) (suc k) d order le lt =
    begins_in_order m.begin ms j k d order.1 (omega arith) (omega arith)

-- No extent begins at the offset or before it.
pub at_none : (last : Option Extent) (es : List Extent) (offset : ℕ) (d : Extent)
    → (0 < length es → offset < (get_or es 0 d).begin) → media_at last es offset ≡ last
at_none last [] offset d after = refl
at_none last (m ∷ ms) offset d after =
    let no : leb m.begin offset ≡ false = lt-leb m.begin offset (after (omega arith)) in
    rw no refl

-- Extent `n` is the last one that does.
pub at_some : (last : Option Extent) (es : List Extent) (offset n m : ℕ) (d : Extent) → m ≡ suc n → n < length es
    → ((k : ℕ) → k ≤ n → (get_or es k d).begin ≤ offset) → (m < length es → offset < (get_or es m d).begin)
    → media_at last es offset ≡ Some (get_or es n d)
at_some last [] offset n m d next lt before after = absurd (omega arith)
at_some last (x ∷ xs) offset zero m d next lt before after =
    let yes : leb x.begin offset ≡ true = le-leb x.begin offset (before 0 (omega arith)) in
    let later = rw next at after in
    rw yes (at_none (Some x) xs offset d (λ some. later (omega arith)))
at_some last (x ∷ xs) offset (suc n) m d next lt before after =
    let yes : leb x.begin offset ≡ true = le-leb x.begin offset (before 0 (omega arith)) in
    let later = rw next at after in
    rw yes (at_some (Some x) xs offset n (suc n) d refl (omega arith) (λ k le. before (suc k) (omega arith))
    (λ some. later (omega arith)))

-- One more extent is in order.
pub order_more : (last : ℕ) (es : List Extent) (i : ℕ) (d : Extent) → i < length es → last ≤ (get_or es i d).begin
    → AreInOrder (get_or es i d).begin (drop (i + 1) es) → AreInOrder last (drop i es)
order_more last es i d lt le rest =
    subst (λ (xs : List Extent). AreInOrder last xs) (sym (drop_more es i d lt)) (le, rest)

pub order_end : (last : ℕ) (es : List Extent) (i : ℕ) → length es ≤ i → AreInOrder last (drop i es)
order_end last es i le = subst (λ (xs : List Extent). AreInOrder last xs) (sym (drop_all i es le)) tt
