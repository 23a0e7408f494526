-- Quotients that are rounded: with a common factor, and those that are too large.
use Rattle.std.proofs.Common.{◌≡◌, ℕ, ◌+◌, ◌-◌, ◌*◌, ◌/◌, ◌%◌, ◌^◌, ◌<◌, ◌≤◌, refl, sym, ap, ap₂, ◌∙◌, arith}
use Rattle.std.proofs.lemmas.Bool.{le-ltb}
use Rattle.std.proofs.lemmas.Nat.{div-add-mod', div_below, le-div, mod_below, mul-le, mul-pow, pow-add, pow_pos}
use Rattle.std.specs.Prelude.{Some, None, if◌then◌else◌, Bool}
use Rattle.mp4_shown.specs.Decimal.{nearest, small_bits}
use Rattle.mp4_shown.proofs.DigitSteps.{more_powers}

quotient_is : (n m q : ℕ) → 0 < m → q * m ≤ n → n < (q + 1) * m → n / m ≡ q
quotient_is n m q some least most =
    let low = le-div q n m some least in let high = div_below n m (q + 1) some most in omega (arith, low, high)

-- a quotient of two products with a common factor
quotient_common : (n m k : ℕ) → 0 < m → 0 < k → (n * k) / (m * k) ≡ n / m
quotient_common n m k some more =
    let whole = div-add-mod' n m in
    let small = mod_below n m some in
    let scaled : n * k ≡ (n / m * m + n % m) * k = ap (λ (x : ℕ). x * k) (sym whole) in
    let next : (n % m + 1) * k ≤ m * k = mul-le (n % m + 1) k m k (omega (arith, small)) (omega arith) in
    let both : 1 * 1 ≤ m * k = mul-le 1 1 m k (omega (arith, some)) (omega (arith, more)) in
    quotient_is (n * k) (m * k) (n / m) (omega (arith, both)) (omega (arith, scaled))
    (omega (arith, scaled, next, more))

pub nearest_common : (a b k : ℕ) → 0 < b → 0 < k → nearest (a * k) (b * k) ≡ nearest a b
nearest_common a b k some more =
    let top : 2 * (a * k) + b * k ≡ (2 * a + b) * k = omega arith in
    let below : 2 * (b * k) ≡ (2 * b) * k = omega arith in
    ap₂ (λ (x y : ℕ). x / y) top below ∙ quotient_common (2 * a + b) (2 * b) k (omega (arith, some)) more

pub some_fives : (p : ℕ) → 0 < 5 ^ p
some_fives p = let more = more_powers 5 0 p (omega arith) (omega arith) in omega (arith, more)

-- a factor of 2 ^ p is taken out
pub few_places : (d b p : ℕ) → p ≤ b → nearest (d * 2 ^ b) (10 ^ p) ≡ nearest (d * 2 ^ (b - p)) (5 ^ p)
few_places d b p le =
    let sum : b ≡ (b - p) + p = omega (arith, le) in
    let twos : 2 ^ b ≡ 2 ^ (b - p) * 2 ^ p = ap (λ (k : ℕ). 2 ^ k) sum ∙ pow-add 2 (b - p) p in
    let top : d * 2 ^ b ≡ (d * 2 ^ (b - p)) * 2 ^ p = omega (arith, ap (λ (x : ℕ). d * x) twos) in
    ap₂ nearest top (mul-pow 5 2 p) ∙ nearest_common (d * 2 ^ (b - p)) (5 ^ p) (2 ^ p) (some_fives p) (pow_pos p)

pub some_factors : (p k : ℕ) → 0 < 5 ^ p * 2 ^ k
some_factors p k =
    let some : 1 * 1 ≤ 5 ^ p * 2 ^ k =
    mul-le 1 1 (5 ^ p) (2 ^ k) (omega (arith, some_fives p)) (omega (arith, pow_pos k)) in
    omega (arith, some)

-- a factor of 2 ^ b is taken out
pub many_places : (d b p : ℕ) → b ≤ p → nearest (d * 2 ^ b) (10 ^ p) ≡ nearest d (5 ^ p * 2 ^ (p - b))
many_places d b p le =
    let sum : p ≡ (p - b) + b = omega (arith, le) in
    let twos : 2 ^ p ≡ 2 ^ (p - b) * 2 ^ b = ap (λ (k : ℕ). 2 ^ k) sum ∙ pow-add 2 (p - b) b in
    let below : 10 ^ p ≡ (5 ^ p * 2 ^ (p - b)) * 2 ^ b =
    mul-pow 5 2 p ∙ omega (arith, ap (λ (x : ℕ). 5 ^ p * x) twos) in
    ap₂ nearest refl below ∙ nearest_common d (5 ^ p * 2 ^ (p - b)) (2 ^ b) (some_factors p (p - b)) (pow_pos b)

-- both factors of a divisor, which has at most 37 digits
pub few_factors : (b p : ℕ) → b ≤ p → p ≤ 37 → 5 ^ p * 2 ^ (p - b) ≤ 10 ^ 37
few_factors b p le few =
    let twos : 2 ^ (p - b) ≤ 2 ^ p = more_powers 2 (p - b) p (omega arith) (omega (arith, le)) in
    let parts : 10 ^ p ≡ 5 ^ p * 2 ^ p = mul-pow 5 2 p in
    let more : 5 ^ p * 2 ^ (p - b) ≤ 5 ^ p * 2 ^ p = mul-le (5 ^ p) (2 ^ (p - b)) (5 ^ p) (2 ^ p) (omega arith) twos in
    let tens : 10 ^ p ≤ 10 ^ 37 = more_powers 10 p 37 (omega arith) few in
    omega (arith, parts, more, tens)

-- a power of 5 as a divisor
pub few_fives : (p : ℕ) → p ≤ 30 → 5 ^ p < 2 ^ 126
few_fives p few = let small : 5 ^ p ≤ 5 ^ 30 = more_powers 5 p 30 (omega arith) few in omega (arith, small)

-- a dividend of 127 bits or more
pub large : (a p : ℕ) → p ≤ 30 → 2 ^ 126 ≤ a → small_bits (nearest a (5 ^ p)) ≡ None
large a p few many =
    let small : 5 ^ p ≤ 5 ^ 30 = more_powers 5 p 30 (omega arith) few in
    let some = some_fives p in
    let more = le-div (2 ^ 56) (2 * a + 5 ^ p) (2 * 5 ^ p) (omega (arith, some)) (omega (arith, small, many)) in
    ap (λ (b : Bool). if b then Some (nearest a (5 ^ p)) else None) (le-ltb (nearest a (5 ^ p)) (2 ^ 56) more)
