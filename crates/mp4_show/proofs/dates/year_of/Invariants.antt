-- The years that have passed and those that may pass are 400, and the day is the same.
use Rattle.std.proofs.Common.{◌≡◌, ◌≤◌, ◌+◌}
use Rattle.mp4_show.specs.Dates.{year_from}
use Rattle.mp4_show.proofs.dates.year_of.Given as goal

abbrev pub invariant-loop-left : goal.invariant-loop-left
invariant-loop-left l = record {
  passed : l.year + l.left ≡ 2304;
  less : l.day ≤ l.fn.days;
  same : year_from l.left l.year l.day ≡ year_from 400 1904 l.fn.days;
}

abbrev pub decreases-loop-left : goal.decreases-loop-left
decreases-loop-left l = l.left
