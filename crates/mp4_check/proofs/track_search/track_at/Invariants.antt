use Rattle.std.proofs.Common.{◌-◌, ◌≤◌, length}
use Rattle.mp4_check.proofs.track_search.track_at.Given as goal

abbrev pub invariant-halves : goal.invariant-halves
invariant-halves l = record { order : l.low ≤ l.high; within : l.high ≤ length l.tracks }

abbrev pub decreases-halves : goal.decreases-halves
decreases-halves l = l.high - l.low
