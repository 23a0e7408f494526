use Rattle.mp4_lemmas.proofs.Numbers.{shifted_out}
use Rattle.mp4_declared.proofs.bits.shifted.Goals as goal

pub returns-else-width-lt64 : goal.returns-else-width-lt64
returns-else-width-lt64 c = shifted_out c.args.n c.args.width c.if-width-lt64.false c.requires
