-- The faults of the moofs before the rest are written, and the times so far are stored.
use Rattle.std.proofs.Common.{◌≡◌, Some, length}
use Rattle.mp4_check.specs.FragmentFaults.{AreFacts, File}
use Rattle.mp4_check.proofs.FaultLoops.{MoofsSoFar}
use Rattle.mp4_check.proofs.faults.write_fragments.Given as goal

abbrev pub invariant-moofs : goal.invariant-moofs
invariant-moofs g l = record {
  kept : l.walk ≡ l.fn.walk;
  so_far : (f : File) → l.fn.walk.bytes ≡ Some f.bytes → f.boxes ≡ l.boxes → AreFacts f l.facts
      → MoofsSoFar (g.F.FaultForm.writes l.form) f l.fn.told l.number l.rest l.going l.fn.output
      l.output l.written;
}

abbrev pub decreases-moofs : goal.decreases-moofs
decreases-moofs g l = length l.rest
