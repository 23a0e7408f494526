use Rattle.std.proofs.Common.{◌≡◌, ◌<◌, ◌≤◌, ℕ}
use Rattle.mp4_samples.specs.Edits.{begin_of, movie_ticks, Covers}
use Rattle.mp4_samples.proofs.edits.Edits.found_at.Given as goal

abbrev pub invariant-loop-entry : goal.invariant-loop-entry
invariant-loop-entry l = record {
  counted : l.index ≡ l.entry-index;
  begin : l.begin ≡ begin_of l.self l.entry-index;
  begun : movie_ticks l.self (begin_of l.self l.entry-index) ≤ l.ticks;
  none : (k : ℕ) → k < l.entry-index → ¬ Covers l.self k l.ticks;
}
