-- Sums over the first runs of a table, and the sample that they lead to.
use Rattle.std.proofs.Common.{◌≡◌, ℕ, zero, suc, ◌+◌, ◌*◌, ◌<◌, ◌≤◌, List, [], ◌∷◌, ◌++◌, length, get_or, take, drop}
use Rattle.std.proofs.Common.{replicate, refl, sym, ap, ◌∙◌, arith}
use Rattle.std.specs.List.{sum, sum_by}
use Rattle.std.proofs.Math.Seq.{take-append-add}
use Rattle.std.proofs.lemmas.List.{length-append, length-replicate, get_or-replicate, get_or_past, take-append-drop}
use Rattle.std.proofs.lemmas.List.{take-append-le, take-replicate, take_all, drop_more}
use Rattle.std.proofs.lemmas.List.Concat.{flat_map-cons, flat_map-append, get_or-flat_map}
use Rattle.std.proofs.lemmas.List.Folds.{sum_by-replicate}
use Rattle.std.proofs.lemmas.List.Sums.{sum_by-cons, sum_by-append, sum_by_more}
use Rattle.mp4_samples.specs.declared.run_place.RunPlace.{RunPlace}
use Rattle.mp4_samples.specs.Runs.{spelled, sum_before}
use Rattle.mp4_samples.specs.Places.{IsAtRun}

pub sum_none : {X : Type 0} (f : X → ℕ) (xs : List X) → sum_before f xs 0 ≡ 0
unfolding sum_before
sum_none f xs = refl

pub sum_next : {X : Type 0} (f : X → ℕ) (xs : List X) (i : ℕ) (d : X) → i < length xs
    → sum_before f xs (i + 1) ≡ sum_before f xs i + f (get_or xs i d)
unfolding sum_before
sum_next f xs i d lt = sum_by_more f xs i d lt

sum_first : {X : Type 0} (f : X → ℕ) (x : X) (xs : List X) (i : ℕ)
    → sum_before f (x ∷ xs) (suc i) ≡ f x + sum_before f xs i
unfolding sum_before
sum_first f x xs i = sum_by-cons f x (take i xs)

pub sum_order : {X : Type 0} (f : X → ℕ) (xs : List X) (i j : ℕ) → i ≤ j → j ≤ length xs
    → sum_before f xs i ≤ sum_before f xs j
sum_order f xs zero j le within = omega (arith, sum_none f xs)
sum_order f [] (suc i) j le within = absurd (omega arith)
sum_order f (x ∷ xs) (suc i) zero le within = absurd (omega arith)
sum_order f (x ∷ xs) (suc i) (suc j) le within =
    let low = sum_first f x xs i in
    let high = sum_first f x xs j in
    omega (arith, sum_order f xs i j (omega arith) (omega arith), low, high)

spelled-cons : {X A : Type 0} (count : X → ℕ) (value : X → A) (x : X) (xs : List X)
    → spelled count value (x ∷ xs) ≡ replicate (count x) (value x) ++ spelled count value xs
unfolding spelled
spelled-cons count value x xs = flat_map-cons (λ x. replicate (count x) (value x)) x xs

length_all : {X A : Type 0} (count : X → ℕ) (value : X → A) (xs : List X)
    → length (spelled count value xs) ≡ sum_by count xs
unfolding spelled
length_all count value [] = refl
length_all count value (x ∷ xs) =
    let long = ap length (spelled-cons count value x xs)
    ∙ length-append (replicate (count x) (value x)) (spelled count value xs) in
    omega (arith, long, length-replicate (count x) (value x), length_all count value xs, sum_by-cons count x xs)

sum_all : {X : Type 0} (count value : X → ℕ) (xs : List X)
    → sum (spelled count value xs) ≡ sum_by (λ x. count x * value x) xs
unfolding spelled
sum_all count value [] = refl
sum_all count value (x ∷ xs) =
    let all = ap sum (spelled-cons count value x xs)
    ∙ sum_by-append (λ (x : ℕ). x) (replicate (count x) (value x)) (spelled count value xs) in
    let own = sum_by-replicate (λ (x : ℕ). x) (count x) (value x) in
    omega (arith, all, own, sum_all count value xs, sum_by-cons (λ x. count x * value x) x xs)

-- The list around run `i`.
parts_at : {X A : Type 0} (count : X → ℕ) (value : X → A) (xs : List X) (i : ℕ) (d : X) → i < length xs
    → spelled count value xs ≡ spelled count value (take i xs)
    ++ (replicate (count (get_or xs i d)) (value (get_or xs i d)) ++ spelled count value (drop (i + 1) xs))
unfolding spelled
parts_at count value xs i d lt =
    let x = get_or xs i d in
    let rest = drop (i + 1) xs in
    let parts : xs ≡ take i xs ++ (x ∷ rest) =
    sym (take-append-drop i xs) ∙ ap (λ (l : List _). take i xs ++ l) (drop_more xs i d lt) in
    ap (spelled count value) parts ∙ flat_map-append (λ x. replicate (count x) (value x)) (take i xs) (x ∷ rest)
    ∙ ap (λ (l : List _). spelled count value (take i xs) ++ l) (spelled-cons count value x rest)

-- The value of sample `k`, which is sample `n` of run `i`.
pub get_in : {X A : Type 0} (count : X → ℕ) (value : X → A) (xs : List X) (i n k : ℕ) (d : X) (a : A) → i < length xs
    → k ≡ sum_before count xs i + n → n < count (get_or xs i d)
    → get_or (spelled count value xs) k a ≡ value (get_or xs i d)
unfolding spelled sum_before
get_in count value xs i n k d a lt is less =
    let c = count (get_or xs i d) in
    let v = value (get_or xs i d) in
    let before = take i xs in
    let place : k ≡ length (spelled count value before) + n = omega (arith, is, length_all count value before) in
    let inside : n < length (replicate c v) = omega (arith, less, length-replicate c v) in
    rw place (get_or-flat_map (λ x. replicate (count x) (value x)) xs i n d a lt inside ∙ get_or-replicate c n v a less)

-- The number of samples.
pub count_all : {X A : Type 0} (count : X → ℕ) (value : X → A) (xs : List X)
    → length (spelled count value xs) ≡ sum_before count xs (length xs)
unfolding sum_before
count_all count value xs = rw (take_all (length xs) xs (omega arith)) (length_all count value xs)

-- A sample past all runs has no value.
pub get_past : {X A : Type 0} (count : X → ℕ) (value : X → A) (xs : List X) (k : ℕ) (a : A)
    → sum_before count xs (length xs) ≤ k → get_or (spelled count value xs) k a ≡ a
get_past count value xs k a le = get_or_past (spelled count value xs) k a (omega (arith, count_all count value xs, le))

-- The sum of the values before sample `k`, which is sample `n` of run `i`, or the end of this run.
pub start_in : {X : Type 0} (count value : X → ℕ) (xs : List X) (i n k : ℕ) (d : X) → i < length xs
    → k ≡ sum_before count xs i + n → n ≤ count (get_or xs i d)
    → sum (take k (spelled count value xs))
    ≡ sum_before (λ x. count x * value x) xs i + n * value (get_or xs i d)
unfolding sum_before
start_in count value xs i n k d lt is le =
    let c = count (get_or xs i d) in
    let v = value (get_or xs i d) in
    let before = spelled count value (take i xs) in
    let rest = spelled count value (drop (i + 1) xs) in
    let place : k ≡ length before + n = omega (arith, is, length_all count value (take i xs)) in
    let inside : n ≤ length (replicate c v) = omega (arith, le, length-replicate c v) in
    let taken : take (length before + n) (before ++ (replicate c v ++ rest)) ≡ before ++ replicate n v =
    take-append-add before (replicate c v ++ rest) n
    ∙ ap (λ (l : List ℕ). before ++ l) (take-append-le n (replicate c v) rest inside ∙ take-replicate n c v le) in
    let sums = sum_by-append (λ (x : ℕ). x) before (replicate n v) in
    let own = sum_by-replicate (λ (x : ℕ). x) n v in
    rw (parts_at count value xs i d lt, place, taken) (omega (arith, sums, own, sum_all count value (take i xs)))

-- The sum of all values.
pub start_past : {X : Type 0} (count value : X → ℕ) (xs : List X) (k : ℕ) → sum_before count xs (length xs) ≤ k
    → sum (take k (spelled count value xs)) ≡ sum_before (λ x. count x * value x) xs (length xs)
unfolding sum_before
start_past count value xs k le =
    let long : length (spelled count value xs) ≤ k = omega (arith, count_all count value xs, le) in
    rw (take_all (length xs) xs (omega arith), take_all k (spelled count value xs) long) (sum_all count value xs)

-- A walk can begin at the front for each sample, and at the run of a sample for the next one.
pub at_front : {X : Type 0} (count : X → ℕ) (xs : List X) (k : ℕ)
    → IsAtRun count xs k (record { index = 0; first = 0 })
at_front count xs k = record { within = omega arith; first = sym (sum_none count xs); begun = omega arith }

pub at_next : {X : Type 0} (count : X → ℕ) (xs : List X) (k : ℕ) (p : RunPlace) → IsAtRun count xs k p
    → IsAtRun count xs (k + 1) p
at_next count xs k p at = record { within = at.within; first = at.first; begun = omega (arith, at.begun) }
