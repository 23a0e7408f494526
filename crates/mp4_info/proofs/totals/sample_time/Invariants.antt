-- The time is that of the entries before the index.
use Rattle.std.proofs.Common.{◌≡◌, take}
use Rattle.mp4_info.specs.Totals.{sample_time}
use Rattle.mp4_info.proofs.totals.sample_time.Given as goal

abbrev pub invariant-loop-index : goal.invariant-loop-index
invariant-loop-index l = l.time ≡ sample_time (take l.index l.entries)
