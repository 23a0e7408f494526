-- Numbers: tests of them, powers of 2, and their bytes.
use Rattle.std.proofs.Common.{◌≡◌, ℕ, zero, suc, ◌+◌, ◌-◌, ◌*◌, ◌/◌, ◌%◌, ◌^◌, ◌<◌, ◌≤◌, Bool, true, false, min, eqb}
use Rattle.std.proofs.Common.{leb, bit_and, List, ◌∷◌, inl, inr, refl, sym, ap, ◌∙◌, arith}
use Rattle.std.specs.Prelude.{nat_lt}
use Rattle.std.specs.Int.{byte_at, bytes_high_first}
use Rattle.std.proofs.lemmas.Bool.{leb-false, leb-true, le-leb, le-ltb, lt-ltb, ne_eqb, cases_lt}
use Rattle.std.proofs.lemmas.Bool.Decides.{same_from_decides}
use Rattle.std.proofs.lemmas.Nat.{le-div, pow-add}
use Rattle.std.proofs.lemmas.Nat.Bits.{and_pow}
use Rattle.std.proofs.Math.Nat.{div-div-eq-div-mul, div-mul-le_self, div-one, mul-add-div_right, mul-add-mod_self_right}
use Rattle.std.proofs.Math.Nat.{min-eq_left, min-eq_right, mul-le-mul_right, mul_assoc, one-le-pow, pow-succ', zero-div}
use Rattle.std.proofs.Math.Pow.{pow_mono}

-- ---- tests

-- two tests of order with the same result
pub same_lt : (a b c d : ℕ) → (a < b → c < d) → (b ≤ a → d ≤ c) → nat_lt a b ≡ nat_lt c d
same_lt a b c d below above = elim (cases_lt a b) [
  | inl lt ↦ lt-ltb a b lt ∙ sym (lt-ltb c d (below lt))
  | inr le ↦ le-ltb a b le ∙ sym (le-ltb c d (above le))
]

-- a size of 32 bits is equal to a number if and only if it is equal to the lesser of the number and 2 ^ 64 - 1
pub same_size : (size n : ℕ) → size < 2 ^ 32 → eqb size (min n (2 ^ 64 - 1)) ≡ eqb size n
same_size size n fits = by (leb n (2 ^ 64 - 1)) refl
  where
    by : (b : Bool) → leb n (2 ^ 64 - 1) ≡ b → eqb size (min n (2 ^ 64 - 1)) ≡ eqb size n
    by true h = ap (eqb size) (min-eq_left (leb-true n (2 ^ 64 - 1) h))
    by false h =
        let more : 2 ^ 64 - 1 < n = leb-false n (2 ^ 64 - 1) h in
        ap (eqb size) (min-eq_right (omega (arith, more)))
        ∙ (ne_eqb size (2 ^ 64 - 1) (λ e. omega (arith, e, fits))
        ∙ sym (ne_eqb size n (λ e. omega (arith, e, fits, more))))

-- n is within a quotient if and only if n times the divisor is within the dividend
pub same_room : (n e room : ℕ) → 0 < e → leb n (room / e) ≡ leb (n * e) room
same_room n e room some = same_from_decides (leb n (room / e)) (leb (n * e) room) (
  λ h. (let a = mul-le-mul_right e (leb-true n (room / e) h) in
      let b = div-mul-le_self room e in omega (arith, a, b)),
  λ le. le-leb n (room / e) (le-div n room e some le),
)
    (leb-true (n * e) room, le-leb (n * e) room)

-- n entries of e bytes each, after 16 bytes: there are fewer than 2 ^ 32, since there are fewer bytes
pub few_entries : (e n : ℕ) → 0 < e → 16 + e * n < 2 ^ 32 → n < 2 ^ 32
few_entries e n pos small =
    let one : 1 ≤ e = omega arith in
    let times : 1 * n ≤ e * n = mul-le-mul_right n one in
    omega (arith, times)

-- ---- powers of 2

pub below_wide : (n w : ℕ) → n < 2 ^ 64 → 64 ≤ w → n < 2 ^ w
below_wide n w small wide = let p : 2 ^ 64 ≤ 2 ^ w = pow_mono wide in omega (arith, p)

-- a number that has no bit left after a shift by 64 or more is 0
pub shifted_out : (n w : ℕ) → 64 ≤ w → n * 2 ^ w < 2 ^ 64 → 0 ≡ n * 2 ^ w
shifted_out zero w wide small = omega arith
shifted_out (suc n) w wide small =
    let p : 2 ^ 64 ≤ 2 ^ w = pow_mono wide in
    let q : 1 * 2 ^ w ≤ suc n * 2 ^ w = mul-le-mul_right (2 ^ w) (omega arith) in
    absurd (omega (arith, p, q))

pub div-pow : (x a b : ℕ) → x / 2 ^ a / 2 ^ b ≡ x / 2 ^ (a + b)
div-pow x a b = div-div-eq-div-mul x (2 ^ a) (2 ^ b) ∙ ap (λ (p : ℕ). x / p) (sym (pow-add 2 a b))

-- the mask 0x40 keeps bit 6
pub masked : (n : ℕ) → bit_and n 64 ≡ n / 64 % 2 * 64
masked n = and_pow n 6

-- ---- bytes

-- a number of bits, in whole bytes and the bits after them
pub in_bytes : (t : ℕ) → t ≡ 8 * (t / 8) + t % 8
in_bytes t = omega arith

pub byte_at-zero : (k : ℕ) → byte_at k 0 ≡ 0
byte_at-zero zero = refl
byte_at-zero (suc k) = ap (λ (x : ℕ). x % 256) (zero-div (256 ^ suc k))

pub byte_is : (k n : ℕ) → byte_at k n ≡ n / 256 ^ k % 256
byte_is zero n = ap (λ (x : ℕ). x % 256) (sym (div-one n))
byte_is (suc k) n = refl

above_zero : (w : ℕ) → 0 < 256 ^ w
above_zero w = let p = one-le-pow w 256 (omega arith) in omega (arith, p)

-- the low bytes of a number do not depend on the high ones
pub low_bytes : (w k m : ℕ) → bytes_high_first w (k * 256 ^ w + m) ≡ bytes_high_first w m
low_bytes zero k m = refl
low_bytes (suc w) k m =
    let p = 256 ^ w in
    let e : k * 256 ^ suc w + m ≡ k * 256 * p + m = ap (λ (q : ℕ). k * q + m) (pow-succ' 256 w)
    ∙ ap (λ (x : ℕ). x + m) (sym (mul_assoc k 256 p)) in
    let first : byte_at w (k * 256 * p + m) ≡ byte_at w m =
    byte_is w (k * 256 * p + m) ∙ ap (λ (x : ℕ). x % 256) (mul-add-div_right (above_zero w) (k * 256) m)
    ∙ mul-add-mod_self_right k 256 (m / p) ∙ sym (byte_is w m) in
    ap (bytes_high_first (suc w)) e ∙ ap (λ (b : ℕ). b ∷ bytes_high_first w (k * 256 * p + m)) first
    ∙ ap (λ (l : List ℕ). byte_at w m ∷ l) (low_bytes w (k * 256) m)
