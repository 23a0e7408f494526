-- The total is that of the runs before the index.
use Rattle.std.proofs.Common.{◌≡◌, ◌+◌, ◌-◌, ◌^◌, min, take}
use Rattle.mp4_c.specs.FragmentSamples.{samples_of}
use Rattle.mp4_c.proofs.fragment_samples.with_runs.Given as goal

abbrev pub invariant-runs : goal.invariant-runs
invariant-runs l = l.total ≡ min (l.count + samples_of (take l.index l.runs)) (2 ^ 64 - 1)
