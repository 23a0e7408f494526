-- A list with one more item at its end.
use Rattle.std.proofs.Common.{◌≡◌, ℕ, ◌+◌, ◌-◌, ◌<◌, ◌≤◌, inl, inr, List, [], ◌∷◌, ◌++◌, length, get_or, ap, map}
use Rattle.std.proofs.Common.{sym, arith}
use Rattle.std.specs.List.{range_with_len}
use Rattle.std.specs.List.Sorted.{IsNonDecreasing}
use Rattle.std.proofs.lemmas.Bool.{cases_lt}
use Rattle.std.proofs.lemmas.List.{get_or_default, get_or_append_left, get_or_push, length_push}
use Rattle.std.proofs.lemmas.List.FromFn.{map-range_with_len_more}
use Rattle.std.proofs.lemmas.List.Sorted.{IsNonDecreasingBy-push}

-- A property of each number and of the new one.
pub each_push : (P : ℕ → ℕ → Type 0) (new old : List ℕ) (x n : ℕ) → new ≡ old ++ x ∷ [] → length old ≡ n
    → ((i : ℕ) → i < n → P i (get_or old i 0)) → P n x → (i : ℕ) → i < n + 1 → P i (get_or new i 0)
each_push P new old x n pushed long each here i lt = rw pushed (elim (cases_lt i n) [
  | inl less ↦
      let before = get_or_append_left old (x ∷ []) 0 i (omega arith) in
      rw before (each i less)
  | inr le ↦
      let is : i ≡ n = omega arith in
      let last = get_or_push old x 0 i (omega arith) in
      rw (last, is) here
])

pub long_push : (new old : List ℕ) (x n : ℕ) → new ≡ old ++ x ∷ [] → length old ≡ n → length new ≡ n + 1
long_push new old x n pushed long = omega (arith, ap length pushed, length_push old x, long)

pub order_push : (new old : List ℕ) (x n : ℕ) → new ≡ old ++ x ∷ [] → length old ≡ n → IsNonDecreasing old
    → ((i : ℕ) → i < n → get_or old i 0 ≤ x) → IsNonDecreasing new
order_push new old x n pushed long order top = rw pushed (IsNonDecreasingBy-push (λ x. x) old x order (λ d under.
    let same = get_or_default old (length old - 1) d 0 (omega arith) in
    omega (arith, same, top (length old - 1) (omega arith))))

pub order_none : IsNonDecreasing []
order_none = λ i j d le lt. absurd (omega arith)

-- A list by a function of the index.
pub listed_push : {X : Type 0} (f : ℕ → X) (a n m j : ℕ) (new old : List X) (x : X) → new ≡ old ++ x ∷ []
    → old ≡ map f (range_with_len a n) → x ≡ f j → a + n ≡ j → m ≡ n + 1 → new ≡ map f (range_with_len a m)
listed_push f a n m j new old x pushed is here at next =
    rw (pushed, is, here, next) (sym (map-range_with_len_more f a n j at))
