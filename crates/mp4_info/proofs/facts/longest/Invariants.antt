-- The largest of the tracks before the index, or that of the others, is the largest of all.
use Rattle.std.proofs.Common.{◌≡◌, drop}
use Rattle.std.specs.Prelude.{max}
use Rattle.mp4_info.specs.Facts.{longest}
use Rattle.mp4_info.proofs.facts.longest.Given as goal

abbrev pub invariant-loop-index : goal.invariant-loop-index
invariant-loop-index l = max l.most (longest (drop l.index l.tracks)) ≡ longest l.tracks
