-- No fragment before the index can be read.
use Rattle.std.proofs.Common.{◌≡◌, drop}
use Rattle.mp4_info.specs.Facts.{first_time}
use Rattle.mp4_info.proofs.facts.first_time.Given as goal

abbrev pub invariant-loop-index : goal.invariant-loop-index
invariant-loop-index l = first_time l.position l.answers ≡ first_time l.position (drop l.index l.answers)
