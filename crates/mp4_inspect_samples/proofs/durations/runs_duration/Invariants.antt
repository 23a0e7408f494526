-- The total is that of the runs before the index.
use Rattle.std.proofs.Common.{◌≡◌, ◌-◌, ◌^◌, min, take}
use Rattle.mp4_inspect_samples.specs.Segments.{runs_duration}
use Rattle.mp4_inspect_samples.proofs.durations.runs_duration.Given as goal

abbrev pub invariant-runs : goal.invariant-runs
invariant-runs l = l.total ≡ min (runs_duration l.default (take l.index l.runs)) (2 ^ 64 - 1)
