-- Fixed-point numbers without and with a sign come back from JSON.
use Rattle.std.proofs.Common.{◌≡◌, ℕ, ℤ, pos, negsuc, ◌*◌, ◌^◌, ◌<◌, ◌≤◌, Bool, true, false, not, ◌&&◌, Ok}
use Rattle.std.proofs.Common.{Option, refl, ap, ap₂, ◌∙◌, arith}
use Rattle.std.proofs.lemmas.Bool.{le-ltb, leb-true, lt-ltb, ltb-true}
use Rattle.std.proofs.lemmas.Nat.{mul-le}
use Rattle.std.proofs.Math.Nat.{pow-le-pow_right}
use Rattle.std.specs.Int.{is_negative}
use Rattle.std.specs.Prelude.{◌==◌, ◌||◌, if◌then◌else◌, min, nat_le, nat_lt, neg_ℤ, unsigned_abs}
use Rattle.json.specs.Json as json
use Rattle.mp4_shown.specs.Decimal.{Decimal}
use Rattle.mp4_shown.specs.TakenValues.{as_decimal, fixed_of, or_else, signed_fixed_of, sized}
use Rattle.mp4_shown.specs.declared.taken.error.Reason.TheVariants as reasons
use Rattle.mp4_shown_json.specs.Fixed.{fixed_text}
use Rattle.mp4_read_back.specs.ComesBackLaws.{and_both}
use Rattle.mp4_read_back.specs.Fields.{fixed_json}
use Rattle.mp4_read_back.specs.FixedLaws.{IsShort, fixed_again}
use Rattle.mp4_read_back.specs.NumberParts.{is_short}

-- numbers of few enough bits have few enough digits
pub short_by : (n most bits : ℕ) → is_short most bits ≡ true → n < 2 ^ most → IsShort n bits
short_by n most bits good fits =
    let both = and_both (nat_le most 56) (nat_lt (2 ^ most * 5 ^ min bits 30 * 10) (10 ^ 37)) good in
    let more : 2 ^ most ≤ 2 ^ 56 =
    pow-le-pow_right {n = 2} (omega arith) {i = most} {j = 56} (leb-true most 56 both.0) in
    let digits = ltb-true (2 ^ most * 5 ^ min bits 30 * 10) (10 ^ 37) both.1 in
    let scaled : n * 5 ^ min bits 30 ≤ 2 ^ most * 5 ^ min bits 30 =
    mul-le n (5 ^ min bits 30) (2 ^ most) (5 ^ min bits 30) (omega (arith, fits)) (omega arith) in
    (omega (arith, fits, more), omega (arith, scaled, digits))

pub fixed_number : (n bits : ℕ) → IsShort n bits
    → or_else reasons.NotNumber (fixed_of bits) (as_decimal (json.number (fixed_text false n bits))) ≡ Ok n
fixed_number n bits short =
    let again = fixed_again false n bits short in
    let d = again.0 in
    ap (λ (o : Option Decimal). or_else reasons.NotNumber (fixed_of bits) o) again.1
    ∙ ap₂ (λ (b : Bool) (k : ℕ). sized (nat_lt k (2 ^ 56) && (not b || (k == 0))) k) again.2 again.3
    ∙ ap (λ (b : Bool). sized (b && true) n) (lt-ltb n (2 ^ 56) short.0)

abs_again : (z : ℤ) → (if is_negative z then neg_ℤ (pos (unsigned_abs z)) else pos (unsigned_abs z)) ≡ z
abs_again (pos n) =
    ap (λ (b : Bool). if b then neg_ℤ (pos n) else pos n) (le-ltb n 0 (omega arith))
abs_again (negsuc n) = refl

pub signed_fixed_number : (z : ℤ) (bits : ℕ) → IsShort (unsigned_abs z) bits
    → or_else reasons.NotNumber (signed_fixed_of bits) (as_decimal (fixed_json z bits)) ≡ Ok z
signed_fixed_number z bits short =
    let again = fixed_again (is_negative z) (unsigned_abs z) bits short in
    ap (λ (o : Option Decimal). or_else reasons.NotNumber (signed_fixed_of bits) o) again.1
    ∙ ap₂ (λ (b : Bool) (k : ℕ). sized (nat_lt k (2 ^ 56)) (if b then neg_ℤ (pos k) else pos k)) again.2 again.3
    ∙ ap (λ (b : Bool). sized b (if is_negative z then neg_ℤ (pos (unsigned_abs z)) else pos (unsigned_abs z)))
    (lt-ltb (unsigned_abs z) (2 ^ 56) short.0)
    ∙ ap (λ (y : ℤ). Ok y) (abs_again z)
