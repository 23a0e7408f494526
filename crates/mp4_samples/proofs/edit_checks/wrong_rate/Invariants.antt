use Rattle.std.proofs.Common.{◌≡◌, ◌<◌, ℕ, true}
use Rattle.mp4_samples.specs.Edits.{edit_in, is_rate}
use Rattle.mp4_samples.proofs.edit_checks.wrong_rate.Given as goal

abbrev pub invariant-loop-entry : goal.invariant-loop-entry
invariant-loop-entry l = record {
  counted : l.index ≡ l.entry-index;
  passed : (k : ℕ) → k < l.entry-index → is_rate (edit_in l.entries k) ≡ true;
}
