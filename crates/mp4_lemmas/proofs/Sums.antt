-- Sums of lists of numbers, of their fronts, of runs of one value, and over consecutive numbers.
use Rattle.std.proofs.Common.{◌≡◌, ℕ, zero, suc, ◌+◌, ◌-◌, ◌*◌, ◌<◌, ◌≤◌, List, [], ◌∷◌, ◌++◌, take, drop, get_or}
use Rattle.std.proofs.Common.{replicate, refl, ap, subst, arith}
use Rattle.std.specs.List.{range_with_len, sum, sum_by}
use Rattle.std.proofs.lemmas.List.{take-take, drop-take}
use Rattle.std.proofs.lemmas.List.Sums.{sum_by-cons, sum_by-take-drop}

-- ---- over consecutive numbers

-- one number more
pub sum_more : (g : ℕ → ℕ) (a n : ℕ) → sum_by g (range_with_len a (suc n)) ≡ sum_by g (range_with_len a n) + g (a + n)
sum_more g a zero =
    let here : a + zero ≡ a = omega arith in
    rw here refl
sum_more g a (suc n) =
    let rest = sum_more g (a + 1) n in
    let now : sum_by g (range_with_len a (suc (suc n))) ≡ g a + sum_by g (range_with_len (a + 1) (suc n)) =
    sum_by-cons g a (range_with_len (a + 1) (suc n)) in
    let part : sum_by g (range_with_len a (suc n)) ≡ g a + sum_by g (range_with_len (a + 1) n) =
    sum_by-cons g a (range_with_len (a + 1) n) in
    let place : a + 1 + n ≡ a + suc n = omega arith in
    let rest' : sum_by g (range_with_len (a + 1) (suc n)) ≡ sum_by g (range_with_len (a + 1) n) + g (a + suc n) =
    rw place at rest in
    rw (now, part, rest') (omega arith)

pub sum_next : (g : ℕ → ℕ) (a n m : ℕ) → m ≡ n + 1
    → sum_by g (range_with_len a m) ≡ sum_by g (range_with_len a n) + g (a + n)
sum_next g a n m is =
    let one : suc n ≡ m = omega arith in
    subst (λ (x : ℕ). sum_by g (range_with_len a x) ≡ sum_by g (range_with_len a n) + g (a + n)) one (sum_more g a n)

-- n numbers more, from b, each of which adds m
pub sum_further : (g : ℕ → ℕ) (m a k n b : ℕ) → a + k ≡ b → ((c : ℕ) → b ≤ c → c < b + n → g c ≡ m)
    → sum_by g (range_with_len a (k + n)) ≡ sum_by g (range_with_len a k) + n * m
sum_further g m a zero zero b at alike = omega arith
sum_further g m a zero (suc n) b at alike =
    let here : a ≡ b = omega arith in
    let first : g a ≡ m = alike a (omega arith) (omega arith) in
    let rest = sum_further g m (a + 1) zero n (b + 1) (omega arith)
    (λ c low high. alike c (omega arith) (omega arith)) in
    let now : sum_by g (range_with_len a (suc n)) ≡ g a + sum_by g (range_with_len (a + 1) n) =
    sum_by-cons g a (range_with_len (a + 1) n) in
    let count : zero + n ≡ n = omega arith in
    let rest' : sum_by g (range_with_len (a + 1) n) ≡ 0 + n * m = rw count at rest in
    let count' : zero + suc n ≡ suc n = omega arith in
    rw (count', now, first, rest') (omega arith)
sum_further g m a (suc k) n b at alike =
    let whole : suc k + n ≡ suc (k + n) = omega arith in
    let rest = sum_further g m (a + 1) k n b (omega arith) alike in
    let now : sum_by g (range_with_len a (suc (k + n))) ≡ g a + sum_by g (range_with_len (a + 1) (k + n)) =
    sum_by-cons g a (range_with_len (a + 1) (k + n)) in
    let part : sum_by g (range_with_len a (suc k)) ≡ g a + sum_by g (range_with_len (a + 1) k) =
    sum_by-cons g a (range_with_len (a + 1) k) in
    rw (whole, now, part, rest) (omega arith)

-- ---- of fronts

pub sum_take_more : (xs : List ℕ) (k : ℕ) → sum (take (suc k) xs) ≡ sum (take k xs) + get_or xs k 0
sum_take_more [] zero = refl
sum_take_more [] (suc k) = refl
sum_take_more (x ∷ xs) zero = omega (arith, sum_by-cons (λ (x : ℕ). x) x [])
sum_take_more (x ∷ xs) (suc k) =
    let rest = sum_take_more xs k in
    let one = sum_by-cons (λ (x : ℕ). x) x (take (suc k) xs) in
    let two = sum_by-cons (λ (x : ℕ). x) x (take k xs) in
    omega (arith, rest, one, two)

pub sum_take_add : (xs : List ℕ) (f n : ℕ) → sum (take (f + n) xs) ≡ sum (take f xs) + sum (take n (drop f xs))
sum_take_add xs f n =
    let both = sum_by-take-drop (λ (x : ℕ). x) (take (f + n) xs) f in
    let low = ap sum (take-take f (f + n) xs (omega arith)) in
    let high = ap sum (drop-take f n xs) in
    omega (arith, both, low, high)

-- ---- of a value repeated at the front

pub run_sum : (c n v : ℕ) (rest : List ℕ) → n ≤ c → sum (take n (replicate c v ++ rest)) ≡ n * v
run_sum c zero v rest le = omega arith
run_sum zero (suc n) v rest le = absurd (omega arith)
run_sum (suc c) (suc n) v rest le =
    let others = run_sum c n v rest (omega arith) in
    let now : sum (take (suc n) (replicate (suc c) v ++ rest)) ≡ v + sum (take n (replicate c v ++ rest)) =
    sum_by-cons (λ x. x) v (take n (replicate c v ++ rest)) in
    let times : suc n * v ≡ n * v + v = omega arith in
    omega (arith, others, now, times)

pub past_run_sum : (c n v : ℕ) (rest : List ℕ) → c ≤ n
    → sum (take n (replicate c v ++ rest)) ≡ c * v + sum (take (n - c) rest)
past_run_sum zero n v rest le =
    let same : n - zero ≡ n = omega arith in
    rw same (omega arith)
past_run_sum (suc c) zero v rest le = absurd (omega arith)
past_run_sum (suc c) (suc n) v rest le =
    let others = past_run_sum c n v rest (omega arith) in
    let one : suc n - suc c ≡ n - c = omega arith in
    let now : sum (take (suc n) (replicate (suc c) v ++ rest)) ≡ v + sum (take n (replicate c v ++ rest)) =
    sum_by-cons (λ x. x) v (take n (replicate c v ++ rest)) in
    let times : suc c * v ≡ c * v + v = omega arith in
    rw one (omega (arith, others, now, times))
