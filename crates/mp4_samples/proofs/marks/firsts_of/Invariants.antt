use Rattle.std.proofs.Common.{◌≡◌, ℕ, ◌-◌, ◌<◌, ◌≤◌, length, vec_len, vec_capacity, get_or}
use Rattle.mp4_samples.specs.Runs.{sum_before}
use Rattle.mp4_samples.proofs.marks.firsts_of.Given as goal

abbrev pub invariant-loop-run : goal.invariant-loop-run
invariant-loop-run g l = record {
  items : length l.firsts.items ≡ l.run;
  long : vec_len l.firsts ≡ l.run;
  room : vec_capacity l.firsts ≡ length l.entries;
  within : l.run ≤ length l.entries;
  is : (i : ℕ) → i < l.run → get_or l.firsts.items i 0 ≡ sum_before g.R.Run.count l.entries i;
  below : (i : ℕ) → i < l.run → get_or l.firsts.items i 0 < l.total;
  bound : l.first ≤ l.total;
  most : l.first ≤ sum_before g.R.Run.count l.entries l.run;
  now : l.first < l.total → l.first ≡ sum_before g.R.Run.count l.entries l.run;
}

abbrev pub decreases-loop-run : goal.decreases-loop-run
decreases-loop-run g l = length l.entries - l.run
