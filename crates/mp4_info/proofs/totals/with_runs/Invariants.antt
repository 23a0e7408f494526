-- The runs starting at the index lead from the present totals to those of all runs.
use Rattle.std.proofs.Common.{◌≡◌, drop}
use Rattle.mp4_info.specs.Totals.{with_runs}
use Rattle.mp4_info.proofs.totals.with_runs.Given as goal

abbrev pub invariant-loop-index : goal.invariant-loop-index
invariant-loop-index l =
    with_runs l.after l.fragment (drop l.index l.runs) ≡ with_runs l.fn.totals l.fragment l.runs
