-- Lists: their fronts and rests, one element more at the end, runs of one value, maps, and searches.
use Rattle.std.proofs.Common.{◌≡◌, ℕ, zero, suc, ◌+◌, ◌-◌, ◌*◌, ◌%◌, ◌^◌, ◌<◌, ◌≤◌, Bool, true, false, cond, List, []}
use Rattle.std.proofs.Common.{◌∷◌, ◌++◌, length, take, drop, map, get_or, replicate, Some, inl, inr, refl, sym}
use Rattle.std.proofs.Common.{ap, subst, ◌∙◌, append_assoc, arith, length-append, length-drop}
use Rattle.std.specs.Prelude.{nat_lt, slice_get, slice_set, All}
use Rattle.std.specs.List.{copy_within, find, flat_map, range_with_len, AllByRecursion}
use Rattle.std.specs.List.Sorted.{IsNonDecreasing}
use Rattle.std.proofs.Math.Seq.{paste}
use Rattle.std.proofs.lemmas.Bool.{lt-ltb, cases_lt}
use Rattle.std.proofs.lemmas.List.{append-nil, drop-drop, drop-take, drop_more, length-set, length-take, map-id}
use Rattle.std.proofs.lemmas.List.{take-set, take-append-drop, take_all, take_at, take_more_same}
use Rattle.std.proofs.lemmas.List.{get_or_at, get_or_append_left, get_or_default, get_or_push, get_or-set_same}
use Rattle.std.proofs.lemmas.List.Edits.{take-paste}
use Rattle.std.proofs.lemmas.Option.{slice_get_within, get_or_from_slice_get}
use Rattle.std.proofs.lemmas.List.Elements.{recursion_from_All}
use Rattle.std.proofs.lemmas.List.Sorted.{IsNonDecreasingBy-push}

-- ---- fronts and rests

-- the front of a list up to the end of a piece that is put at offset `at`
pub take_written : {A : Type 0} (xs piece rest : List A) (at w : ℕ) → at ≤ length xs → length piece ≡ w
    → take (at + w) (take at xs ++ (piece ++ rest)) ≡ take at xs ++ piece
take_written xs piece rest at w le len =
    let n : length (take at xs ++ piece) ≡ at + w =
    omega (arith, length-append (take at xs) piece, length-take at xs) in
    ap (take (at + w)) (sym (append_assoc (take at xs) piece rest)) ∙ take_at (take at xs ++ piece) rest (at + w) n

-- a list is its first o elements and the w elements after them, if it has o + w
pub front_and_rest : {A : Type 0} (xs front rest : List A) (o w : ℕ) → front ≡ take o xs → rest ≡ take w (drop o xs)
    → length xs ≡ o + w → front ++ rest ≡ xs
front_and_rest xs front rest o w is_front is_rest all =
    ap (λ (l : List _). l ++ rest) is_front
    ∙ ap (λ (l : List _). take o xs ++ l) (is_rest ∙ take_all w (drop o xs) (omega (arith, all, length-drop o xs)))
    ∙ take-append-drop o xs

-- two lists with the same rest have the same rest k elements later
pub drop_both : {A : Type 0} (xs ys : List A) (a b k : ℕ) → drop a xs ≡ drop b ys → drop (a + k) xs ≡ drop (b + k) ys
drop_both xs ys a b k same = sym (drop-drop k a xs) ∙ ap (drop k) same ∙ drop-drop k b ys

pub drop_from : {A : Type 0} (xs ys : List A) (o n : ℕ) → o ≤ n → drop o xs ≡ drop o ys → drop n xs ≡ drop n ys
drop_from xs ys o n le same =
    let is : o + (n - o) ≡ n = omega (arith, le) in
    subst (λ (k : ℕ). drop k xs ≡ drop k ys) is (drop_both xs ys o o (n - o) same)

-- a rest, as the slice from an offset to the end
pub same_rest : {A : Type 0} (xs ys zs : List A) (from : ℕ) → ys ≡ xs → take (length ys - from) (drop from ys) ≡ zs
    → drop from xs ≡ zs
same_rest xs ys zs from is same = ap (drop from) (sym is)
    ∙ sym (take_all (length ys - from) (drop from ys) (omega (arith, length-drop from ys))) ∙ same

-- a rest that is not empty: its first element is the one at k, and the elements after it are the rest at k + 1
pub within : {A : Type 0} (xs : List A) (k : ℕ) (v : A) (rest : List A) → drop k xs ≡ v ∷ rest → k < length xs
within xs k v rest is =
    let count : length (drop k xs) ≡ suc (length rest) = ap length is in
    omega (arith, count, length-drop k xs)

pub first_at : {A : Type 0} (xs : List A) (k : ℕ) (v d : A) (rest : List A) → drop k xs ≡ v ∷ rest → get_or xs k d ≡ v
first_at xs k v d rest is =
    let lt = within xs k v rest is in
    let more = drop_more xs k d lt in
    cc

pub rest_at : {A : Type 0} (xs : List A) (k : ℕ) (v : A) (rest : List A) → drop k xs ≡ v ∷ rest
    → drop (k + 1) xs ≡ rest
rest_at xs k v rest is =
    let lt = within xs k v rest is in
    let more = drop_more xs k v lt in
    cc

-- a rest that is empty
pub ended : {A : Type 0} (xs : List A) (k : ℕ) → drop k xs ≡ [] → length xs ≤ k
ended xs k is =
    let count : length (drop k xs) ≡ 0 = ap length is in
    omega (arith, count, length-drop k xs)

-- the elements from k to f, moved to the front
pub moved_front : {A : Type 0} (xs : List A) (k f : ℕ) → k ≤ f → f ≤ length xs
    → take (f - k) (copy_within xs k f 0) ≡ drop k (take f xs)
moved_front xs k f le within =
    let n = f - k in
    let same : n ≡ 0 + n = omega arith in
    let on : k + n ≡ f = omega (arith, le) in
    ap (λ (j : ℕ). take j (paste xs 0 (drop k xs) n)) same
    ∙ take-paste xs 0 (drop k xs) n (omega (arith, within)) (omega (arith, length-drop k xs, within))
    ∙ sym (ap (λ (j : ℕ). drop k (take j xs)) (sym on) ∙ drop-take k n xs)

-- two lists with the same front, of which one gets the other's next element
pub put_next : {A : Type 0} (from to : List A) (i : ℕ) (x : A) → i < length to → slice_get from i ≡ Some x
    → take i to ≡ take i from → take (i + 1) (slice_set to i x) ≡ take (i + 1) from
put_next from to i x within is front =
    let inside : i < length (slice_set to i x) = omega (arith, length-set to i x, within) in
    take_more_same (slice_set to i x) from i x inside (slice_get_within from i x is) (take-set to i x ∙ front)
    (get_or-set_same to i x x within ∙ sym (get_or_from_slice_get from i x x is))

-- ---- one element more at the end

pub longer : {A : Type 0} (xs : List A) (x : A) (k : ℕ) → k ≤ length xs → k < length (xs ++ x ∷ [])
longer xs x k le = omega (arith, le, length-append xs (x ∷ []))

pub long_enough : {A : Type 0} (xs : List A) (x : A) → nat_lt 0 (length (xs ++ x ∷ [])) ≡ true
long_enough xs x = lt-ltb 0 (length (xs ++ x ∷ [])) (longer xs x 0 (omega arith))

-- a property of all elements: those before the last have it, and so does the last
pub all_before_last : {A : Type 0} (P : A → Type 0) (xs : List A) (x : A) → All P (xs ++ x ∷ []) → All P xs
all_before_last P xs x all =
    λ k d lt. subst P (get_or_append_left xs (x ∷ []) d k lt) (all k d (longer xs x k (omega (arith, lt))))

pub last_of_all : {A : Type 0} (P : A → Type 0) (xs : List A) (x : A) → All P (xs ++ x ∷ []) → P x
last_of_all P xs x all =
    subst P (get_or_at xs x [] x (length xs) refl) (all (length xs) x (longer xs x (length xs) (omega arith)))

-- a relation of each index and its number, which the last index and number have too
pub each_push : (P : ℕ → ℕ → Type 0) (xs : List ℕ) (x n : ℕ) → length xs ≡ n
    → ((i : ℕ) → i < n → P i (get_or xs i 0)) → P n x
    → (i : ℕ) → i < n + 1 → P i (get_or (xs ++ x ∷ []) i 0)
each_push P xs x n long each here i lt = elim (cases_lt i n) [
  | inl less ↦
      let before = get_or_append_left xs (x ∷ []) 0 i (omega arith) in
      rw before (each i less)
  | inr le ↦
      let is : i ≡ n = omega arith in
      let last = get_or_push xs x 0 i (omega arith) in
      rw (last, is) here
]

-- numbers that do not decrease, and one more that is at least as great as each of them
pub order_push : (xs : List ℕ) (x n : ℕ) → length xs ≡ n → IsNonDecreasing xs → ((i : ℕ) → i < n → get_or xs i 0 ≤ x)
    → IsNonDecreasing (xs ++ x ∷ [])
order_push xs x n long order top = IsNonDecreasingBy-push (λ x. x) xs x order (λ d under.
    let same = get_or_default xs (length xs - 1) d 0 (omega arith) in
    omega (arith, same, top (length xs - 1) (omega arith)))

pub order_none : IsNonDecreasing []
order_none = λ i j d le lt. absurd (omega arith)

-- ---- a value repeated at the front

pub run_first : {A : Type 0} (n : ℕ) (v : A) (rest : List A) → 1 ≤ n
    → replicate n v ++ rest ≡ v ∷ (replicate (n - 1) v ++ rest)
run_first zero v rest le = absurd (omega arith)
run_first (suc n) v rest le =
    let one : suc n - 1 ≡ n = omega arith in
    rw one refl

pub run_get : {A : Type 0} (c n : ℕ) (v d : A) (rest : List A) → n < c → get_or (replicate c v ++ rest) n d ≡ v
run_get zero n v d rest lt = absurd (omega arith)
run_get (suc c) zero v d rest lt = refl
run_get (suc c) (suc n) v d rest lt = run_get c n v d rest (omega arith)

pub past_run_get : {A : Type 0} (c n : ℕ) (v d : A) (rest : List A) → c ≤ n
    → get_or (replicate c v ++ rest) n d ≡ get_or rest (n - c) d
past_run_get zero n v d rest le =
    let same : n - zero ≡ n = omega arith in
    rw same refl
past_run_get (suc c) zero v d rest le = absurd (omega arith)
past_run_get (suc c) (suc n) v d rest le =
    let one : suc n - suc c ≡ n - c = omega arith in
    rw one (past_run_get c n v d rest (omega arith))

-- ---- maps, and searches

-- the map that changes nothing: std's lemma, under a name that an attribute can have
pub map_same : {A : Type 0} (xs : List A) → map (λ (x : A). x) xs ≡ xs
map_same xs = map-id xs

-- a map that another one undoes at each element that fits
pub map_back : {X Y : Type 0} (f : X → Y) (back_of : Y → X) (Fits : X → Type 0)
    → ((x : X) → Fits x → back_of (f x) ≡ x) → (xs : List X) → AllByRecursion Fits xs → map back_of (map f xs) ≡ xs
map_back f back_of Fits back [] h = refl
map_back f back_of Fits back (x ∷ xs) h = rw (back x h.0, map_back f back_of Fits back xs h.1) refl

-- the length of lists of e elements each, joined
pub length_flat : {X A : Type 0} (f : X → List A) (e : ℕ) (Fits : X → Type 0)
    → ((x : X) → Fits x → length (f x) ≡ e) → (xs : List X) → AllByRecursion Fits xs
    → length (flat_map f xs) ≡ e * length xs
length_flat f e Fits each [] h = omega arith
length_flat f e Fits each (x ∷ xs) h =
    omega (arith, length-append (f x) (flat_map f xs), each x h.0, length_flat f e Fits each xs h.1)

-- the lists of n + 1 numbers starting at a, joined
pub flat_map_range_more : {A : Type 0} (f : ℕ → List A) (a n : ℕ)
    → flat_map f (range_with_len a (n + 1)) ≡ flat_map f (range_with_len a n) ++ f (a + n)
flat_map_range_more f a zero =
    let here : a + zero ≡ a = omega arith in
    rw here (append-nil (f a))
flat_map_range_more f a (suc n) =
    let one : suc n + 1 ≡ suc (n + 1) = omega arith in
    let there : a + suc n ≡ a + 1 + n = omega arith in
    rw (one, there, flat_map_range_more f (a + 1) n)
    (sym (append_assoc (f a) (flat_map f (range_with_len (a + 1) n)) (f (a + 1 + n))))

-- the lowest 32 bits of numbers below 2 ^ 32
lowest_bits_by_recursion : (xs : List ℕ) → AllByRecursion (λ x. x < 2 ^ 32) xs → map (λ x. x % 2 ^ 32) xs ≡ xs
lowest_bits_by_recursion [] h = refl
lowest_bits_by_recursion (x ∷ xs) h =
    let e : x % 2 ^ 32 ≡ x = omega (arith, h.0) in rw (e, lowest_bits_by_recursion xs h.1) refl

pub lowest_bits : (xs : List ℕ) → All (λ x. x < 2 ^ 32) xs → map (λ x. x % 2 ^ 32) xs ≡ xs
lowest_bits xs h = lowest_bits_by_recursion xs (recursion_from_All (λ x. x < 2 ^ 32) xs h)

-- a value that is found passes the test
pub find_passes : {A : Type 0} (p : A → Bool) (xs : List A) (x : A) → find p xs ≡ Some x → p x ≡ true
find_passes p [] v h = cc
find_passes p (x ∷ xs) v h =
    elim (p x) as (λ b. p x ≡ b → cond b (Some x) (find p xs) ≡ Some v → p v ≡ true) [
      | true ↦ λ e h. cc
      | false ↦ λ _ h. find_passes p xs v h
    ] refl h
