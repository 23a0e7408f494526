-- Digits that are read one after the other, and zeros after them.
use Rattle.std.proofs.Common.{◌≡◌, ℕ, zero, suc, ◌+◌, ◌-◌, ◌*◌, ◌^◌, ◌<◌, ◌≤◌, List, [], ◌∷◌, length, get_or, drop}
use Rattle.std.proofs.Common.{◌++◌, true, false, ltb, refl, sym, ap, ◌∙◌, inl, inr, arith, rules}
use Rattle.std.proofs.lemmas.Bool.{le-ltb, ltb-true, ltb-false}
use Rattle.std.proofs.lemmas.List.{drop_more}
use Rattle.std.proofs.lemmas.Nat.{mul-le, pow-add}
use Rattle.std.proofs.lemmas.Str.Parse.{FoldsDigits, digit_at}
use Rattle.std.proofs.Math.Nat.{pow-zero, pow-suc}
use Rattle.std.specs.Prelude.{min, ◌⊎◌, Some, None, if◌then◌else◌, Bool}
use Rattle.std.specs.Char.{digit_value}
use Rattle.std.specs.Str.Parse.{AllDigits, digits_value_after}
use Rattle.mp4_shown.specs.Decimal.{few_digits}

-- the digit at an index is the next one
after_step : (n : ℕ) (ds : List ℕ) (i : ℕ) → i < length ds
    → digits_value_after 10 n (drop i ds)
    ≡ digits_value_after 10 (n * 10 + digit_value (get_or ds i 0)) (drop (i + 1) ds)
after_step n ds i lt = ap (digits_value_after 10 n) (drop_more ds i 0 lt)

folds : FoldsDigits (digits_value_after 10)
folds = search rules

pub digit_step : (n : ℕ) (ds : List ℕ) (i : ℕ) → AllDigits 10 ds → i < length ds
    → digits_value_after 10 n (drop i ds) ≡ digits_value_after 10 (n * 10 + (get_or ds i 0 - 48)) (drop (i + 1) ds)
digit_step n ds i digits lt =
    ap (digits_value_after 10 n) (drop_more ds i 0 lt)
    ∙ folds.more n (get_or ds i 0) (drop (i + 1) ds) (digit_at ds i digits lt)

-- a number is not less than its front
pub after_grows : (n : ℕ) (ds : List ℕ) → n ≤ digits_value_after 10 n ds
after_grows n [] = omega arith
after_grows n (c ∷ cs) = let more = after_grows (n * 10 + digit_value c) cs in omega (arith, more)

pub few_none : (n : ℕ) → 10 ^ 37 ≤ n → few_digits n ≡ None
few_none n many = ap (λ (b : Bool). if b then Some n else None) (le-ltb n (10 ^ 37) many)

-- a number with another digit has too many
pub too_many : (n : ℕ) (ds : List ℕ) (i : ℕ) → 10 ^ 36 ≤ n → i < length ds
    → few_digits (digits_value_after 10 n (drop i ds)) ≡ None
too_many n ds i many lt =
    let more = after_grows (n * 10 + digit_value (get_or ds i 0)) (drop (i + 1) ds) in
    ap few_digits (after_step n ds i lt)
    ∙ few_none (digits_value_after 10 (n * 10 + digit_value (get_or ds i 0)) (drop (i + 1) ds))
    (omega (arith, more, many))

-- ---- powers of numbers up to 10

power_grows : (b k : ℕ) → b ≤ 10 → b ^ k ≤ 10 ^ k
power_grows b zero le = let one = pow-zero b in omega (arith, one)
power_grows b (suc k) le =
    let left = pow-suc b k in
    let right = pow-suc 10 k in
    let more = mul-le (b ^ k) b (10 ^ k) 10 (power_grows b k le) le in
    omega (arith, left, right, more)

some_power : (b k : ℕ) → 1 ≤ b → 1 ≤ b ^ k
some_power b zero some = let one = pow-zero b in omega (arith, one)
some_power b (suc k) some =
    let more = some_power b k some in
    let parts = pow-suc b k in
    let product = mul-le 1 1 (b ^ k) b more some in
    omega (arith, parts, product)

pub more_powers : (b i j : ℕ) → 1 ≤ b → i ≤ j → b ^ i ≤ b ^ j
more_powers b i j some le =
    let sum : j ≡ i + (j - i) = omega (arith, le) in
    let parts : b ^ j ≡ b ^ i * b ^ (j - i) = ap (λ (k : ℕ). b ^ k) sum ∙ pow-add b i (j - i) in
    let more = mul-le (b ^ i) 1 (b ^ i) (b ^ (j - i)) (omega arith) (some_power b (j - i) some) in
    omega (arith, parts, more)

more_tens : (i j : ℕ) → i ≤ j → 10 ^ i ≤ 10 ^ j
more_tens i j le = more_powers 10 i j (omega arith) le

-- a power with an exponent up to 37
pub small_power : (b k : ℕ) → b ≤ 10 → k ≤ 37 → b ^ k ≤ 10 ^ 37
small_power b k small short =
    let grows = power_grows b k small in let more = more_tens k 37 short in omega (arith, grows, more)

-- a number with too many zeros has too many digits
pub large_power : (n k : ℕ) → 1 ≤ n → 10 ^ 37 ≤ 10 ^ k → few_digits (n * 10 ^ k) ≡ None
large_power n k some more =
    let whole = mul-le 1 (10 ^ 37) n (10 ^ k) some more in few_none (n * 10 ^ k) (omega (arith, whole))

many_zeros : (n k : ℕ) → 1 ≤ n → 37 < k → few_digits (n * 10 ^ k) ≡ None
many_zeros n k some many = large_power n k some (more_tens 37 k (omega (arith, many)))

-- ---- zeros after digits

le_or_more : (e : ℕ) → (min e 1000 ≡ e) ⊎ ((min e 1000 ≡ 1000) × (1000 < e))
le_or_more e =
    elim (ltb 1000 e) as (λ b. ltb 1000 e ≡ b → (min e 1000 ≡ e) ⊎ ((min e 1000 ≡ 1000) × (1000 < e))) [
      | true ↦ λ is. let more = ltb-true 1000 e is in inr (omega (arith, more), more)
      | false ↦ λ is. let less = ltb-false 1000 e is in inl (omega (arith, less))
    ] refl

pub zero_times : (n k : ℕ) → n ≡ 0 → n * k ≡ 0
zero_times n k none = let zero_of : 0 * k ≡ 0 = omega arith in ap (λ (m : ℕ). m * k) none ∙ zero_of

at_most_by : (n : ℕ) (ds : List ℕ) → (min n 1000 ≡ n) ⊎ ((min n 1000 ≡ 1000) × (1000 < n))
    → min (digits_value_after 10 (min n 1000) ds) 1000 ≡ min (digits_value_after 10 n ds) 1000
at_most_by n ds (inl same) = ap (λ (k : ℕ). min (digits_value_after 10 k ds) 1000) same
at_most_by n ds (inr more) =
    let left = after_grows (min n 1000) ds in
    let right = after_grows n ds in
    omega (arith, left, right, more.0, more.1)

many_zeros_of : (n e : ℕ) → 1000 < e → few_digits (n * 10 ^ 1000) ≡ few_digits (n * 10 ^ e)
many_zeros_of zero e more = ap few_digits (zero_times zero (10 ^ 1000) refl ∙ sym (zero_times zero (10 ^ e) refl))
many_zeros_of (suc n) e more =
    many_zeros (suc n) 1000 (omega arith) (omega arith) ∙ sym (many_zeros (suc n) e (omega arith) (omega (arith, more)))

up_by : (n e : ℕ) → (min e 1000 ≡ e) ⊎ ((min e 1000 ≡ 1000) × (1000 < e))
    → few_digits (n * 10 ^ min e 1000) ≡ few_digits (n * 10 ^ e)
up_by n e (inl same) = ap (λ (k : ℕ). few_digits (n * 10 ^ k)) same
up_by n e (inr more) = ap (λ (k : ℕ). few_digits (n * 10 ^ k)) more.0 ∙ many_zeros_of n e more.1

many_by : (n : ℕ) → few_digits n ≡ None → 10 ^ 37 ≤ n
many_by n none =
    elim (ltb n (10 ^ 37)) as (λ b. ltb n (10 ^ 37) ≡ b → (if b then Some n else None) ≡ None → 10 ^ 37 ≤ n) [
      | true ↦ λ is no. absurd cc
      | false ↦ λ is no. ltb-false n (10 ^ 37) is
    ] refl none

-- more zeros than 1000 are as many as 1000
pub many_up : (n e : ℕ) → few_digits (n * 10 ^ min e 1000) ≡ few_digits (n * 10 ^ e)
many_up n e = up_by n e (le_or_more e)

-- a number above 1000 counts as 1000, also with further digits
pub at_most : (n : ℕ) (ds : List ℕ)
    → min (digits_value_after 10 (min n 1000) ds) 1000 ≡ min (digits_value_after 10 n ds) 1000
at_most n ds = at_most_by n ds (le_or_more n)

-- the digits of two texts, one after the other
pub digits_joined : (n : ℕ) (ds es : List ℕ) → digits_value_after 10 n (ds ++ es)
    ≡ digits_value_after 10 (digits_value_after 10 n ds) es
digits_joined n [] es = refl
digits_joined n (d ∷ ds) es = digits_joined (n * 10 + digit_value d) ds es

-- a front with too many digits
front_has_many : (n k : ℕ) (es : List ℕ) → few_digits n ≡ None
    → few_digits (digits_value_after 10 n es * 10 ^ k) ≡ None
front_has_many n k es none =
    let many = many_by n none in
    let grows = after_grows n es in
    let product = mul-le (digits_value_after 10 n es) 1 (digits_value_after 10 n es) (10 ^ k) (omega arith)
    (some_power 10 k (omega arith)) in
    few_none (digits_value_after 10 n es * 10 ^ k) (omega (arith, many, grows, product))

some_by : (b : Bool) (n m : ℕ) → Some m ≡ (if b then Some n else None) → m ≡ n
some_by true n m is = cc
some_by false n m is = absurd cc

some_digits : (n m : ℕ) → Some m ≡ few_digits n → m ≡ n
some_digits n m is = some_by (ltb n (10 ^ 37)) n m is

-- the digits before the point are too many
pub whole_has_many : (ds es : List ℕ) (k : ℕ) → None ≡ few_digits (digits_value_after 10 0 ds)
    → None ≡ few_digits (digits_value_after 10 0 (ds ++ es) * 10 ^ k)
whole_has_many ds es k none =
    sym (ap (λ (n : ℕ). few_digits (n * 10 ^ k)) (digits_joined 0 ds es)
    ∙ front_has_many (digits_value_after 10 0 ds) k es (sym none))

-- the digits on both sides of the point as one number
pub both_are : (ds es : List ℕ) (whole : ℕ) → Some whole ≡ few_digits (digits_value_after 10 0 ds)
    → digits_value_after 10 0 (ds ++ es) ≡ digits_value_after 10 whole es
both_are ds es whole some =
    digits_joined 0 ds es
    ∙ ap (λ (n : ℕ). digits_value_after 10 n es) (sym (some_digits (digits_value_after 10 0 ds) whole some))

pub both_have_many : (ds es : List ℕ) (whole k : ℕ) → Some whole ≡ few_digits (digits_value_after 10 0 ds)
    → None ≡ few_digits (digits_value_after 10 whole es)
    → None ≡ few_digits (digits_value_after 10 0 (ds ++ es) * 10 ^ k)
both_have_many ds es whole k some none =
    sym (ap (λ (n : ℕ). few_digits (n * 10 ^ k)) (both_are ds es whole some)
    ∙ front_has_many (digits_value_after 10 whole es) k [] (sym none))

pub with_all_zeros : (ds es : List ℕ) (whole n k : ℕ) → Some whole ≡ few_digits (digits_value_after 10 0 ds)
    → Some n ≡ few_digits (digits_value_after 10 whole es)
    → few_digits (n * 10 ^ min k 1000) ≡ few_digits (digits_value_after 10 0 (ds ++ es) * 10 ^ k)
with_all_zeros ds es whole n k some more =
    many_up n k
    ∙ ap (λ (m : ℕ). few_digits (m * 10 ^ k))
    (some_digits (digits_value_after 10 whole es) n more ∙ sym (both_are ds es whole some))
