-- The runs before the current one end at `reached`.
use Rattle.std.proofs.Common.{length, ◌-◌}
use Rattle.mp4_samples.specs.FragmentPlaces.{IsReached}
use Rattle.mp4_samples.proofs.fragment.Fragment.end.Given as goal

abbrev pub invariant-runs : goal.invariant-runs
invariant-runs l = IsReached l.self l.reached

abbrev pub decreases-runs : goal.decreases-runs
decreases-runs l = length l.self.runs.now - l.reached.run
