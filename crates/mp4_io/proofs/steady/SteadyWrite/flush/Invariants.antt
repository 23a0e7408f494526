-- An interrupted flush appends no byte.
use Rattle.std.specs.Io.KnownBytes.{Keeps}
use Rattle.mp4_io.proofs.steady.SteadyWrite.flush.Given as goal

abbrev pub invariant-loop : goal.invariant-loop
invariant-loop g l = Keeps (g.W.Write.contents l.initial.self.inner) (g.W.Write.contents l.self.inner)
