use Rattle.std.proofs.Common.{◌≡◌, ◌<◌, ◌≤◌, ℕ}
use Rattle.mp4_samples.specs.Edits.{begin_of, media_ticks, Shows}
use Rattle.mp4_samples.proofs.edits.Edits.next_presentation.Given as goal

abbrev pub invariant-loop-entry : goal.invariant-loop-entry
invariant-loop-entry l = record {
  counted : l.index ≡ l.entry-index;
  begin : l.begin ≡ begin_of l.self l.entry-index;
  none : (k t : ℕ) → l.first ≤ k → k < l.entry-index → ¬ Shows l.self k t (media_ticks l.self l.time);
}
