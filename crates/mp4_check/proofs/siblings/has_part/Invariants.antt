-- No box before the current one is the part.
use Rattle.std.proofs.Common.{◌≡◌, drop}
use Rattle.mp4_check.specs.Siblings.{has_part}
use Rattle.mp4_check.proofs.siblings.has_part.Given as goal

abbrev pub invariant-loop-found : goal.invariant-loop-found
invariant-loop-found l = has_part l.part l.depth l.after ≡ has_part l.part l.depth (drop l.found-index l.after)
