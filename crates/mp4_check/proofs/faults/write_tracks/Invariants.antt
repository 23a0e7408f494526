-- The faults of the tracks before the rest are written, and these tracks are stored.
use Rattle.std.proofs.Common.{◌≡◌, [], length}
use Rattle.std.specs.Prelude.{IfSome}
use Rattle.mp4_check.specs.TrackFaults.{IsMet, value_of_facts}
use Rattle.mp4_check.proofs.FaultLoops.{TracksSoFar}
use Rattle.mp4_check.proofs.faults.write_tracks.Given as goal

abbrev pub invariant-tracks : goal.invariant-tracks
invariant-tracks g l = record {
  kept : l.walk ≡ l.fn.walk;
  so_far : IfSome l.fn.walk.bytes (λ file. IsMet file [] l.fn.met
      → TracksSoFar (g.F.FaultForm.writes l.form) file (value_of_facts l.facts) l.fn.told l.movie l.rest l.number l.met
      l.fn.output l.output l.written);
}

abbrev pub decreases-tracks : goal.decreases-tracks
decreases-tracks g l = length l.rest
