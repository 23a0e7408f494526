-- The faults of the trafs before the rest are written, and what goes on is stored.
use Rattle.std.proofs.Common.{◌≡◌, Some, length}
use Rattle.mp4_check.specs.FragmentFaults.{AreFacts, File, IsGoing, Times, found_at}
use Rattle.mp4_check.proofs.FaultLoops.{TrafsSoFar}
use Rattle.mp4_check.proofs.faults.write_moof.Given as goal

abbrev pub invariant-trafs : goal.invariant-trafs
invariant-trafs g l = record {
  kept : l.walk ≡ l.fn.walk;
  so_far : (f : File) (times : Times) → l.fn.walk.bytes ≡ Some f.bytes → AreFacts f l.facts
      → IsGoing times l.fn.going.end l.fn.going
      → TrafsSoFar (g.F.FaultForm.writes l.form) f l.fn.told (found_at l.fn.moof) l.fn.number times l.rest l.index
      l.going
      l.fn.output l.output l.written;
}

abbrev pub decreases-trafs : goal.decreases-trafs
decreases-trafs g l = length l.rest
