use Rattle.std.proofs.Common.{refl, arith}
use Rattle.mp4_lemmas.proofs.Numbers.{below_wide}
use Rattle.mp4_declared.proofs.bits.fits.Goals as goal

pub returns-else-width-lt64 : goal.returns-else-width-lt64
returns-else-width-lt64 c =
    ((λ _. below_wide c.args.n c.args.width (omega (arith, c.ranges.n)) c.if-width-lt64.false), (λ _. refl))
