use Rattle.std.proofs.Common.{◌≡◌, ℕ, ◌-◌, ◌*◌, ◌^◌, sym, ap, ap₂, ◌∙◌, arith}
use Rattle.std.specs.Prelude.{min}
use Rattle.mp4_shown.specs.Decimal.{nearest, small_bits}
use Rattle.mp4_shown.proofs.Fixed.{few_factors, few_places, many_places, some_factors}
use Rattle.mp4_shown.proofs.taken.decimal.fixed_bits.Goals as goal

pub overflow_mul-power : goal.overflow_mul-power
overflow_mul-power c =
    let p = c.args.decimal.places in
    let b = c.min-bits.result in
    let product : c.power.result * c.power-else-places-bits.result ≡ 5 ^ p * 2 ^ (p - b) =
    ap₂ (λ (x y : ℕ). x * y) c.power.ensures.value c.power-else-places-bits.ensures.value in
    omega (arith, product, few_factors b p (omega (arith, c.if-places-bits.false)) c.args.decimal.close)

pub nearest-requires-clause-some : goal.nearest-requires-clause-some
nearest-requires-clause-some c =
    let p = c.args.decimal.places in
    let b = c.min-bits.result in
    let product : c.power.result * c.power-else-places-bits.result ≡ 5 ^ p * 2 ^ (p - b) =
    ap₂ (λ (x y : ℕ). x * y) c.power.ensures.value c.power-else-places-bits.ensures.value in
    omega (arith, product, some_factors p (p - b))

pub nearest-requires-clause-part : goal.nearest-requires-clause-part
nearest-requires-clause-part c =
    let p = c.args.decimal.places in
    let b = c.min-bits.result in
    let product : c.power.result * c.power-else-places-bits.result ≡ 5 ^ p * 2 ^ (p - b) =
    ap₂ (λ (x y : ℕ). x * y) c.power.ensures.value c.power-else-places-bits.ensures.value in
    omega (arith, product, few_factors b p (omega (arith, c.if-places-bits.false)) c.args.decimal.close)

pub returns-then-places-bits : goal.returns-then-places-bits
returns-then-places-bits c =
    let d = c.args.decimal.digits in
    let p = c.args.decimal.places in
    let b = c.min-bits.result in
    let least : b ≡ min c.args.bits 30 = omega (arith, c.min-bits.ensures) in
    c.nearest_shifted.ensures
    ∙ ap (λ (n : ℕ). small_bits n) (sym (few_places d b p c.if-places-bits.true))
    ∙ ap (λ (k : ℕ). small_bits (nearest (d * 2 ^ k) (10 ^ p))) least

pub returns-else-places-bits : goal.returns-else-places-bits
returns-else-places-bits c =
    let d = c.args.decimal.digits in
    let p = c.args.decimal.places in
    let b = c.min-bits.result in
    let least : b ≡ min c.args.bits 30 = omega (arith, c.min-bits.ensures) in
    let product : c.power.result * c.power-else-places-bits.result ≡ 5 ^ p * 2 ^ (p - b) =
    ap₂ (λ (x y : ℕ). x * y) c.power.ensures.value c.power-else-places-bits.ensures.value in
    c.nearest.ensures
    ∙ ap (λ (k : ℕ). small_bits (nearest d k)) product
    ∙ ap (λ (n : ℕ). small_bits n) (sym (many_places d b p (omega (arith, c.if-places-bits.false))))
    ∙ ap (λ (k : ℕ). small_bits (nearest (d * 2 ^ k) (10 ^ p))) least
