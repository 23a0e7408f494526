-- The runs starting at the index are still to be appended.
use Rattle.std.proofs.Common.{◌≡◌, ◌++◌, drop}
use Rattle.std.specs.Prelude.{flat_map}
use Rattle.mp4_info.specs.RunTimes.{run_times}
use Rattle.mp4_info.proofs.run_times.push_fragment.Given as goal

abbrev pub invariant-loop-index : goal.invariant-loop-index
invariant-loop-index l =
    l.out.items ++ flat_map (run_times l.fragment) (drop l.index l.runs)
    ≡ l.initial.out.items ++ flat_map (run_times l.fragment) l.runs
