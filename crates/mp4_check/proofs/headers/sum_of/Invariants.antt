use Rattle.std.proofs.Common.{◌≡◌, ◌-◌, ◌^◌, min}
use Rattle.mp4_samples.specs.Edits.{durations_before}
use Rattle.mp4_check.proofs.headers.sum_of.Given as goal

abbrev pub invariant-loop-edit : goal.invariant-loop-edit
invariant-loop-edit l = l.total ≡ min (durations_before l.edits l.edit-index) (2 ^ 64 - 1)
