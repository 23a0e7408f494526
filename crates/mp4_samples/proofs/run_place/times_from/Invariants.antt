use Rattle.std.proofs.Common.{◌-◌, length}
use Rattle.mp4_samples.specs.Places.{IsAtTime}
use Rattle.mp4_samples.proofs.run_place.times_from.Given as goal

abbrev pub invariant-loop-at : goal.invariant-loop-at
invariant-loop-at l = IsAtTime l.entries l.number l.at

abbrev pub decreases-loop-at : goal.decreases-loop-at
decreases-loop-at l = length l.entries - l.at.run.index
