use Rattle.std.proofs.Common.{◌≡◌, ◌+◌, ◌-◌, ◌<◌, ◌≤◌, length}
use Rattle.mp4_samples.specs.Runs.{start_of, sum_before}
use Rattle.mp4_samples.proofs.TimeMarks.{count}
use Rattle.mp4_samples.proofs.lookup.number_from.Given as goal

abbrev pub invariant-loop-index : goal.invariant-loop-index
invariant-loop-index l = record {
  inside : l.index ≤ length l.entries;
  within : l.first ≤ l.count;
  start : start_of l.entries l.first + l.left ≡ l.time;
  now : l.first < l.count → l.first ≡ sum_before count l.entries l.index;
}

abbrev pub decreases-loop-index : goal.decreases-loop-index
decreases-loop-index l = length l.entries - l.index
