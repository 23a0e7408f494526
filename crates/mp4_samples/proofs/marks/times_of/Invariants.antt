use Rattle.std.proofs.Common.{◌≡◌, ℕ, ◌*◌, ◌-◌, ◌^◌, ◌<◌, ◌≤◌, length, vec_len, vec_capacity, get_or}
use Rattle.mp4_samples.specs.Runs.{sum_before}
use Rattle.mp4_samples.proofs.TimeMarks.{product}
use Rattle.mp4_samples.proofs.marks.times_of.Given as goal

abbrev pub invariant-loop-index : goal.invariant-loop-index
invariant-loop-index l = record {
  items : length l.times.items ≡ l.index;
  long : vec_len l.times ≡ l.index;
  room : vec_capacity l.times ≡ length l.firsts;
  is : (i : ℕ) → i < l.index → get_or l.times.items i 0 ≡ sum_before product l.entries i;
  fits : (i : ℕ) → i < l.index → get_or l.times.items i 0 ≤ get_or l.firsts i 0 * (2 ^ 32 - 1);
  now : l.index < length l.firsts → l.time ≡ sum_before product l.entries l.index;
  small : l.index < length l.firsts → l.time ≤ get_or l.firsts l.index 0 * (2 ^ 32 - 1);
}
