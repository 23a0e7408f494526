use Rattle.mp4_frame.specs.Bytes.{number}
use Rattle.mp4_declared.specs.Bits.{bytes_in}
use Rattle.mp4_declared.proofs.BitSteps.{NumbersRead}
use Rattle.mp4_declared.proofs.bits.numbers_at.Given as goal

abbrev pub invariant-loop-k : goal.invariant-loop-k
invariant-loop-k g l = NumbersRead l.widths (number l.bytes l.at (bytes_in l.widths)) l.k l.from l.numbers
