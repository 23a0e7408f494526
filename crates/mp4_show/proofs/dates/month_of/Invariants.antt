-- The months that have passed and those that may pass are 12, and the day is the same.
use Rattle.std.proofs.Common.{◌≡◌, ◌≤◌, ◌+◌}
use Rattle.mp4_show.specs.Dates.{month_from}
use Rattle.mp4_show.proofs.dates.month_of.Given as goal

abbrev pub invariant-loop-left : goal.invariant-loop-left
invariant-loop-left l = record {
  passed : l.month + l.left ≡ 13;
  less : l.day ≤ l.fn.days;
  same : month_from l.left l.fn.year l.month l.day ≡ month_from 12 l.fn.year 1 l.fn.days;
}

abbrev pub decreases-loop-left : goal.decreases-loop-left
decreases-loop-left l = l.left
