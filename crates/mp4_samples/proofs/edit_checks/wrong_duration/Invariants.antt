use Rattle.std.proofs.Common.{◌≡◌, ◌<◌, ◌^◌}
use Rattle.mp4_samples.specs.Edits.{durations_before}
use Rattle.mp4_samples.proofs.edit_checks.wrong_duration.Given as goal

abbrev pub invariant-loop-entry : goal.invariant-loop-entry
invariant-loop-entry l = record {
  counted : l.index ≡ l.entry-index;
  total : l.total ≡ durations_before l.entries l.entry-index;
  fits : l.total < 2 ^ 64;
}
