-- The count is that of the samples of the entries before the index.
use Rattle.std.proofs.Common.{◌≡◌, take}
use Rattle.mp4_info.specs.Totals.{sample_count}
use Rattle.mp4_info.proofs.totals.sample_count.Given as goal

abbrev pub invariant-loop-index : goal.invariant-loop-index
invariant-loop-index l = l.count ≡ sample_count (take l.index l.entries)
