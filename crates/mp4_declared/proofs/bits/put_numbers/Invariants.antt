use Rattle.mp4_declared.proofs.BitSteps.{NumbersPut}
use Rattle.mp4_declared.proofs.bits.put_numbers.Given as goal

abbrev pub invariant-loop-k : goal.invariant-loop-k
invariant-loop-k g l = NumbersPut l.widths l.numbers l.at l.initial.out l.k l.next l.word l.count l.out
