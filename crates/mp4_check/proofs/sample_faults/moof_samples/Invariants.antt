-- The faults of the trafs before the rest are appended.
use Rattle.std.proofs.Common.{◌≡◌, ℕ, length}
use Rattle.std.specs.BTreeMap.{get}
use Rattle.std.specs.Ordering.{nat_cmp}
use Rattle.std.specs.Prelude.{IfSome}
use Rattle.mp4_check.specs.FaultValues.{values_of}
use Rattle.mp4_check.specs.FragmentFaults.{found_at}
use Rattle.mp4_check.specs.SampleFaults.{kinds_at}
use Rattle.mp4_check.proofs.SampleLoops.{TrafsSoFar}
use Rattle.mp4_check.proofs.sample_faults.moof_samples.Given as goal

abbrev pub invariant-trafs : goal.invariant-trafs
invariant-trafs g l = record {
  same : l.walk ≡ l.fn.walk;
  kinds : l.kept.kinds ≡ l.fn.kept.kinds;
  so_far : IfSome l.fn.walk.bytes (λ file.
      TrafsSoFar file (λ (q : ℕ). get nat_cmp l.defaults q) (kinds_at l.fn.kept) l.number (found_at l.moof) l.rest
      l.index l.end l.fn.kept.left l.kept.left (values_of l.fn.faults.items) (values_of l.faults.items));
}

abbrev pub decreases-trafs : goal.decreases-trafs
decreases-trafs g l = length l.rest
