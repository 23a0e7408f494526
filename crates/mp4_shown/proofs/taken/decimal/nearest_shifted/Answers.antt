use Rattle.std.proofs.Common.{◌≡◌, ℕ, ◌*◌, ◌^◌, sym, ap, arith}
use Rattle.mp4_shown.proofs.Fixed.{large, some_fives}
use Rattle.mp4_shown.proofs.taken.decimal.nearest_shifted.Goals as goal

pub returns-in_err-dividend : goal.returns-in_err-dividend
returns-in_err-dividend c =
    let product : c.args.digits * c.power.result ≡ c.args.digits * 2 ^ c.args.shift =
    ap (λ (p : ℕ). c.args.digits * p) c.power.ensures.value in
    rw c.from_residual.ensures
    (sym (large (c.args.digits * 2 ^ c.args.shift) c.args.places c.requires.close
    (omega (arith, product, c.in_err-dividend.ensures))))

pub returns-then-dividend : goal.returns-then-dividend
returns-then-dividend c =
    let product : c.args.digits * c.power.result ≡ c.args.digits * 2 ^ c.args.shift =
    ap (λ (p : ℕ). c.args.digits * p) c.power.ensures.value in
    sym (large (c.args.digits * 2 ^ c.args.shift) c.args.places c.requires.close
    (omega (arith, product, c.in_ok-dividend.ensures.1, c.if-dividend.true)))

pub nearest-requires-clause-some : goal.nearest-requires-clause-some
nearest-requires-clause-some c = omega (arith, c.power-2.ensures.value, some_fives c.args.places)
