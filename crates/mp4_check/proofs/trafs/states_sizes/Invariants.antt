-- Each run before the current one lists all sizes.
use Rattle.std.proofs.Common.{◌≡◌, drop}
use Rattle.std.specs.List.{list_all}
use Rattle.mp4_check.specs.FragmentValues.{lists_sizes}
use Rattle.mp4_check.proofs.trafs.states_sizes.Given as goal

abbrev pub invariant-loop-run : goal.invariant-loop-run
invariant-loop-run l =
    list_all lists_sizes l.traf.runs.items ≡ list_all lists_sizes (drop l.run-index l.traf.runs.items)
