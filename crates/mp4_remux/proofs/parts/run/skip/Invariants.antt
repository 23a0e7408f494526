-- The samples before this one are passed.
use Rattle.std.proofs.Common.{◌≡◌, ◌-◌, ◌≤◌}
use Rattle.mp4_remux.specs.Tracks.{IsGoing, number_of_track, teller_of}
use Rattle.mp4_remux.proofs.parts.run.skip.Given as goal

abbrev pub invariant-skipped : goal.invariant-skipped
invariant-skipped l = record {
  same : teller_of l.samples ≡ teller_of l.fn.samples;
  number : number_of_track l.samples ≡ l.number;
  going : IsGoing l.samples;
  within : l.number ≤ l.first;
}

abbrev pub decreases-skipped : goal.decreases-skipped
decreases-skipped l = l.first - l.number
