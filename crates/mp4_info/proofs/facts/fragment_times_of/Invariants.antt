-- The moofs starting at the index are still to be appended.
use Rattle.std.proofs.Common.{◌≡◌, ◌++◌, drop, map}
use Rattle.mp4_info.specs.Facts.{fragment_time}
use Rattle.mp4_info.proofs.facts.fragment_times_of.Given as goal

abbrev pub invariant-loop-index : goal.invariant-loop-index
invariant-loop-index l =
    l.times.items ++ map fragment_time (drop l.index l.moofs) ≡ map fragment_time l.moofs
