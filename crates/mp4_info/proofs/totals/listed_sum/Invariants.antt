-- The total is that of the numbers before the index.
use Rattle.std.proofs.Common.{◌≡◌, take}
use Rattle.mp4_info.specs.Totals.{listed_sum}
use Rattle.mp4_info.proofs.totals.listed_sum.Given as goal

abbrev pub invariant-loop-index : goal.invariant-loop-index
invariant-loop-index l = l.total ≡ listed_sum (take l.index l.numbers)
