-- The rows are those of the samples before the current one, after the initial rows.
use Rattle.std.proofs.Common.{◌≡◌, ℕ, ◌<◌, false, List, ◌++◌, length}
use Rattle.mp4_samples.specs.FragmentGives.{fragment_samples_left, number_of}
use Rattle.mp4_c.specs.FragmentSamples.{IsRow}
use Rattle.mp4_c.specs.declared.samples.SampleRow.{SampleRow}
use Rattle.mp4_c.proofs.fragment_samples.push_rows.Given as goal

abbrev pub invariant-rows : goal.invariant-rows
invariant-rows l = record {
  fragment : l.samples.fragment ≡ l.fragment;
  going : l.samples.ended ≡ false;
  added : (own : List SampleRow) × (length own ≡ number_of l.samples)
      × ((k : ℕ) → k < length own → IsRow l.fragment own k)
      × (l.rows.items ≡ l.initial.rows.items ++ own);
}

abbrev pub decreases-rows : goal.decreases-rows
decreases-rows l = fragment_samples_left l.samples
