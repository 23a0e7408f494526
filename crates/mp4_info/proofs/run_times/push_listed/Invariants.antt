-- The durations starting at the index are still to be appended.
use Rattle.std.proofs.Common.{◌≡◌, ◌++◌, drop, map}
use Rattle.mp4_info.specs.RunTimes.{single}
use Rattle.mp4_info.proofs.run_times.push_listed.Given as goal

abbrev pub invariant-loop-index : goal.invariant-loop-index
invariant-loop-index l =
    l.out.items ++ map single (drop l.index l.durations) ≡ l.initial.out.items ++ map single l.durations
