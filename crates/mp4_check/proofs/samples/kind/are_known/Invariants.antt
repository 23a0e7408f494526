-- No kind before the current one has a rule.
use Rattle.std.proofs.Common.{◌≡◌, drop}
use Rattle.mp4_check.specs.Kinds.{are_known}
use Rattle.mp4_check.proofs.samples.kind.are_known.Given as goal

abbrev pub invariant-loop-kind : goal.invariant-loop-kind
invariant-loop-kind l = are_known l.kinds ≡ are_known (drop l.kind-index l.kinds)
