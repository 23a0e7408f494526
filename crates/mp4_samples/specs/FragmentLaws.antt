-- Laws that follow from the definitions of the samples of a fragment.
use Rattle.std.specs.Prelude.{ℕ, ◌≡◌, ◌+◌, ◌<◌, ◌≤◌, sum_by}
use Rattle.mp4_tables.specs.declared.trun.TrunBox.{TrunBox}
use Rattle.mp4_samples.specs.declared.sample.Sample.{Sample}
use Rattle.mp4_samples.specs.declared.fragment.Fragment.{Fragment}
use Rattle.mp4_samples.specs.Fragments.{IsFragmentSample, start_of, time_before}
use Rattle.mp4_samples.specs.FragmentGives.{sample_total}

abbrev pub FragmentSampleIsUnique : Type 0
FragmentSampleIsUnique =
    (f : Fragment) (k : ℕ) (a b : Sample) → IsFragmentSample f k a → IsFragmentSample f k b → a ≡ b

-- Laws about two samples of the same run.
abbrev pub RunSamplesAreAdjacent : Type 0
RunSamplesAreAdjacent =
    (f : Fragment) (k : ℕ) (a b : Sample) → IsFragmentSample f k a → IsFragmentSample f (k + 1) b → a.chunk ≡ b.chunk
    → b.offset ≡ a.offset + a.size

abbrev pub RunSamplesDoNotOverlap : Type 0
RunSamplesDoNotOverlap =
    (f : Fragment) (j k : ℕ) (a b : Sample) → j < k → IsFragmentSample f j a → IsFragmentSample f k b
    → a.chunk ≡ b.chunk
    → a.offset + a.size ≤ b.offset

-- Laws about any two samples.
abbrev pub FragmentTimesFollow : Type 0
FragmentTimesFollow =
    (f : Fragment) (k : ℕ) (a b : Sample) → IsFragmentSample f k a → IsFragmentSample f (k + 1) b
    → b.start_time ≡ a.start_time + a.duration

abbrev pub FragmentTimesDoNotDecrease : Type 0
FragmentTimesDoNotDecrease =
    (f : Fragment) (j k : ℕ) (a b : Sample) → j < k → IsFragmentSample f j a → IsFragmentSample f k b
    → a.start_time + a.duration ≤ b.start_time

-- The first sample starts when the fragment does, and the last one ends at the sum of the durations of its runs.
abbrev pub FragmentBegins : Type 0
FragmentBegins = (f : Fragment) (s : Sample) → IsFragmentSample f 0 s → s.start_time ≡ start_of f

abbrev pub FragmentDurationsAddUp : Type 0
FragmentDurationsAddUp =
    (f : Fragment) (k : ℕ) (s : Sample) → k + 1 ≡ sample_total f → IsFragmentSample f k s
    → s.start_time + s.duration ≡ start_of f + sum_by (λ t. time_before f t t.sample_count) f.runs.now

-- The number of samples is the sum of the counts of the runs.
abbrev pub FragmentCountsAddUp : Type 0
FragmentCountsAddUp = (f : Fragment) → sample_total f ≡ sum_by (λ (t : TrunBox). t.sample_count) f.runs.now

abbrev pub FragmentSamplesAreCounted : Type 0
FragmentSamplesAreCounted = (f : Fragment) (k : ℕ) (s : Sample) → IsFragmentSample f k s → k < sample_total f
