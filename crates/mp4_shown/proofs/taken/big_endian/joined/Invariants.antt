use Rattle.mp4_shown.proofs.JoinSteps.{AreJoined}
use Rattle.mp4_shown.proofs.taken.big_endian.joined.Given as goal

abbrev pub invariant-loop-k : goal.invariant-loop-k
invariant-loop-k l = AreJoined l.widths l.numbers l.k l.joined
