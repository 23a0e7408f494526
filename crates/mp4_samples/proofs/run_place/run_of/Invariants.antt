use Rattle.std.proofs.Common.{◌-◌, length}
use Rattle.mp4_samples.specs.Places.{IsAtRun}
use Rattle.mp4_samples.proofs.run_place.run_of.Given as goal

abbrev pub invariant-loop-at : goal.invariant-loop-at
invariant-loop-at g l = IsAtRun g.R.Run.count l.entries l.number l.at

abbrev pub decreases-loop-at : goal.decreases-loop-at
decreases-loop-at g l = length l.entries - l.at.index
