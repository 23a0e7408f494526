-- The boxes before the offset are read, and their changes are found.
use Rattle.std.proofs.Common.{◌-◌, length}
use Rattle.mp4_normal.proofs.Found.{SoFar}
use Rattle.mp4_normal.proofs.find.find_changes.Given as goal

abbrev pub invariant-loop-at : goal.invariant-loop-at
invariant-loop-at l = SoFar l.stream l.changes l.can l.at

abbrev pub decreases-loop-at : goal.decreases-loop-at
decreases-loop-at l = length l.stream - l.at
