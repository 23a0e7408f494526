-- The total is that of the runs before the index.
use Rattle.std.proofs.Common.{◌≡◌, ◌-◌, ◌^◌, min, take}
use Rattle.mp4_inspect_samples.specs.Listed.{samples_in}
use Rattle.mp4_inspect_samples.proofs.limit.samples_in.Given as goal

abbrev pub invariant-runs : goal.invariant-runs
invariant-runs l = l.total ≡ min (samples_in (take l.index l.runs)) (2 ^ 64 - 1)
