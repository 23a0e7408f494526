-- The faults of the tracks before the rest are appended, and their kinds are stored.
use Rattle.std.proofs.Common.{◌≡◌, [], length}
use Rattle.std.specs.Prelude.{IfSome}
use Rattle.mp4_check.specs.FaultValues.{values_of}
use Rattle.mp4_check.specs.SampleFaults.{AreKinds}
use Rattle.mp4_check.proofs.SampleLoops.{KindsSoFar, TracksSoFar}
use Rattle.mp4_check.proofs.sample_faults.tracks_samples.Given as goal

abbrev pub invariant-tracks : goal.invariant-tracks
invariant-tracks g l = record {
  same : l.walk ≡ l.fn.walk;
  so_far : IfSome l.fn.walk.bytes (λ file.
      TracksSoFar file l.movie l.rest l.number l.fn.kept.left l.kept.left (values_of l.fn.faults.items)
      (values_of l.faults.items));
  kinds : IfSome l.fn.walk.bytes (λ file. AreKinds file [] l.fn.kept → KindsSoFar file l.movie l.rest l.kept);
}

abbrev pub decreases-tracks : goal.decreases-tracks
decreases-tracks g l = length l.rest
