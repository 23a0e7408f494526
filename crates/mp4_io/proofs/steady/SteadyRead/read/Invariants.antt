-- An interrupted read takes no byte.
use Rattle.std.proofs.Common.{◌≡◌, length}
use Rattle.std.specs.Io.KnownBytes.{Keeps}
use Rattle.mp4_io.proofs.steady.SteadyRead.read.Given as goal

abbrev pub invariant-loop : goal.invariant-loop
invariant-loop g l = record {
  length : length l.buf ≡ length l.initial.buf;
  bytes : Keeps (g.R.Read.remaining l.initial.self.inner) (g.R.Read.remaining l.self.inner);
}
