use Rattle.std.proofs.Common.{◌≤◌, ◌-◌, length}
use Rattle.mp4_samples.specs.Places.{GoesBy}
use Rattle.mp4_samples.proofs.chunk_place.samples_through.Given as goal

abbrev pub invariant-loop-at : goal.invariant-loop-at
invariant-loop-at l = record { by : GoesBy l.runs l.at; within : l.at.chunk ≤ l.count }

abbrev pub decreases-loop-at : goal.decreases-loop-at
decreases-loop-at l = length l.runs - l.at.run
