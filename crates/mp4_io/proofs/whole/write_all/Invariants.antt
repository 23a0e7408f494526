-- The bytes before the offset are written.
use Rattle.std.proofs.Common.{◌≡◌, ◌-◌, ◌≤◌, take, length}
use Rattle.std.specs.Io.KnownBytes.{Appends}
use Rattle.mp4_io.proofs.whole.write_all.Given as goal

abbrev pub invariant-loop-at : goal.invariant-loop-at
invariant-loop-at g l = record {
  within : l.at ≤ length l.bytes;
  front : Appends (g.W.Write.contents l.initial.output.inner) (g.W.Write.contents l.output.inner) (take l.at l.bytes);
  mark : l.output.failed ≡ l.initial.output.failed;
}

abbrev pub decreases-loop-at : goal.decreases-loop-at
decreases-loop-at g l = length l.bytes - l.at
