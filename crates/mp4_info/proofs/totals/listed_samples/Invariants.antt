-- The count is that of the numbers before the index, and at most the index.
use Rattle.std.proofs.Common.{◌≡◌, ◌≤◌, take}
use Rattle.mp4_info.specs.Totals.{listed_samples}
use Rattle.mp4_info.proofs.totals.listed_samples.Given as goal

abbrev pub invariant-loop-index : goal.invariant-loop-index
invariant-loop-index l = (l.count ≡ listed_samples (take l.index l.numbers) l.samples) × (l.count ≤ l.index)
