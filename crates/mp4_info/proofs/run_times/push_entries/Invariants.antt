-- The entries starting at the index are still to be appended.
use Rattle.std.proofs.Common.{◌≡◌, ◌++◌, drop}
use Rattle.std.specs.Prelude.{filter}
use Rattle.mp4_info.specs.RunTimes.{counts}
use Rattle.mp4_info.proofs.run_times.push_entries.Given as goal

abbrev pub invariant-loop-index : goal.invariant-loop-index
invariant-loop-index l =
    l.out.items ++ filter counts (drop l.index l.entries) ≡ l.initial.out.items ++ filter counts l.entries
