use Rattle.std.proofs.Common.{◌≡◌, ◌^◌, ◌<◌, ◌≤◌, sym, lit≤, arith}
use Rattle.std.proofs.lemmas.Bool.{lt-ltb}
use Rattle.std.proofs.Math.Nat.{pow-le-pow_right}
use Rattle.mp4_shown.proofs.taken.number.fits.Goals as goal

pub returns-else-bits-lt64 : goal.returns-else-bits-lt64
returns-else-bits-lt64 c =
    let more : 2 ^ 64 ≤ 2 ^ c.args.bits = pow-le-pow_right (lit≤ tt) c.if-bits-lt64.false in
    sym (lt-ltb c.args.number (2 ^ c.args.bits) (omega (arith, c.ranges.number.fits, more)))
