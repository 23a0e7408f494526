-- There are fewer boxes before.
use Rattle.std.proofs.Common.{◌≤◌, length}
use Rattle.mp4_remux.proofs.edits.path_text.alike_before.Given as goal

abbrev pub invariant-loop-at : goal.invariant-loop-at
invariant-loop-at l = l.at ≤ length l.boxes

abbrev pub decreases-loop-at : goal.decreases-loop-at
decreases-loop-at l = l.at
