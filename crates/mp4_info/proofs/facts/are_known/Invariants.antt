-- The main values of the tracks before the index are known.
use Rattle.std.proofs.Common.{◌≡◌, drop}
use Rattle.mp4_info.specs.Facts.{are_known}
use Rattle.mp4_info.proofs.facts.are_known.Given as goal

abbrev pub invariant-loop-index : goal.invariant-loop-index
invariant-loop-index l = are_known l.tracks ≡ are_known (drop l.index l.tracks)
