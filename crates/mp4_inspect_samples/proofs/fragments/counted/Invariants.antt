-- The runs that are left make up the total.
use Rattle.std.proofs.Common.{◌≡◌, ◌≤◌, ◌-◌, ◌^◌, length}
use Rattle.std.specs.Prelude.{IfSome}
use Rattle.mp4_inspect_samples.proofs.RunCounts.{CountedSoFar}
use Rattle.mp4_inspect_samples.proofs.fragments.counted.Given as goal

abbrev pub invariant-runs : goal.invariant-runs
invariant-runs g l = record {
  kept : l.walk ≡ l.fn.walk;
  small : l.samples ≤ 2 ^ 64 - 1;
  so_far : IfSome l.fn.walk.bytes (λ file. CountedSoFar file l.traf l.rest l.samples);
}

abbrev pub decreases-runs : goal.decreases-runs
decreases-runs g l = length l.rest
