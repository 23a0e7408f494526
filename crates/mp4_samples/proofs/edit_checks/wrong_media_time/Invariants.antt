use Rattle.std.proofs.Common.{◌≡◌, ◌<◌, ℕ, true}
use Rattle.mp4_samples.specs.Edits.{edit_in, is_media_time}
use Rattle.mp4_samples.proofs.edit_checks.wrong_media_time.Given as goal

abbrev pub invariant-loop-entry : goal.invariant-loop-entry
invariant-loop-entry l = record {
  counted : l.index ≡ l.entry-index;
  passed : (k : ℕ) → k < l.entry-index → is_media_time l.is_long (edit_in l.entries k) ≡ true;
}
