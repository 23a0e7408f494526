-- The duration of the samples before `index`. Each is below 2^32.
use Rattle.std.proofs.Common.{◌≡◌, ◌*◌, ◌≤◌}
use Rattle.mp4_inspect_samples.specs.Segments.{duration_before}
use Rattle.mp4_inspect_samples.proofs.durations.run_duration.Given as goal

abbrev pub invariant-loop-index : goal.invariant-loop-index
invariant-loop-index l = record {
  total : l.total ≡ duration_before l.default l.run l.index;
  few : l.total ≤ l.index * 4294967295;
}
