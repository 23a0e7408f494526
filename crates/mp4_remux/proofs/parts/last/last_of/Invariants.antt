-- The samples before this one are looked at.
use Rattle.std.proofs.Common.{◌≡◌, ◌-◌, ◌≤◌}
use Rattle.mp4_remux.specs.Parts.{LastOf}
use Rattle.mp4_remux.proofs.parts.last.last_of.Given as goal

abbrev pub invariant-samples : goal.invariant-samples
invariant-samples g l = record {
  same : g.M.Media.teller l.samples ≡ g.M.Media.teller l.fn.samples;
  number : g.M.Media.number l.samples ≡ l.number;
  going : g.M.Media.is_going l.samples;
  within : l.number ≤ g.M.Media.count (g.M.Media.teller l.fn.samples);
  last : LastOf g.M.Media.is_sample (g.M.Media.teller l.fn.samples) l.line l.bound l.number l.last;
}

abbrev pub decreases-samples : goal.decreases-samples
decreases-samples g l = g.M.Media.count (g.M.Media.teller l.fn.samples) - g.M.Media.number l.samples
