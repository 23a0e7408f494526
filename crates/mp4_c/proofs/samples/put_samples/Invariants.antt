-- The samples before the index are put, and the places after them are as they were.
use Rattle.std.proofs.Common.{◌≡◌, ℕ, ◌<◌, ◌≤◌, Some, drop}
use Rattle.std.specs.Prelude.{slice_get}
use Rattle.mp4_samples.specs.Gives.{samples_left}
use Rattle.mp4_samples.specs.Samples.{IsSample, sample_count}
use Rattle.mp4_samples.specs.declared.sample.Sample.{Sample}
use Rattle.mp4_c.specs.Samples.{row_of}
use Rattle.mp4_c.proofs.samples.put_samples.Given as goal

abbrev pub invariant-put : goal.invariant-put
invariant-put l = record {
  tables : l.samples.tables ≡ l.tables;
  number : l.samples.number ≡ l.index;
  within : l.index ≤ sample_count l.tables;
  rows : (k : ℕ) → k < l.index → (s : Sample) × (IsSample l.tables k s × (slice_get l.rows k ≡ Some (row_of s)));
  rest : drop l.index l.rows ≡ drop l.index l.initial.rows;
}

abbrev pub decreases-put : goal.decreases-put
decreases-put l = samples_left l.samples
