-- Laws that follow from the definitions.
use Rattle.std.specs.Prelude.{ℕ, ◌≡◌, ◌+◌, ◌*◌, ◌<◌, ◌≤◌, length, sum_by}
use Rattle.std.specs.List.{range_with_len}
use Rattle.mp4_tables.specs.declared.stts_entry.SttsEntry.{SttsEntry}
use Rattle.mp4_samples.specs.declared.sample.Sample.{Sample}
use Rattle.mp4_samples.specs.declared.tables.Tables.{Tables}
use Rattle.mp4_samples.specs.declared.disagreement.Disagreement.{Disagreement}
use Rattle.mp4_samples.specs.Runs.{durations, duration_of}
use Rattle.mp4_samples.specs.Samples.{IsSample, AreConsistent, sample_count}
use Rattle.mp4_samples.specs.Disagreements.{Disagrees}

abbrev pub SampleIsUnique : Type 0
SampleIsUnique = (t : Tables) (k : ℕ) (a b : Sample) → IsSample t k a → IsSample t k b → a ≡ b

abbrev pub DisagreementRefutes : Type 0
DisagreementRefutes = (t : Tables) (d : Disagreement) → Disagrees t d → ¬ AreConsistent t

abbrev pub SamplesAreAdjacent : Type 0
SamplesAreAdjacent =
    (t : Tables) (k : ℕ) (a b : Sample) → IsSample t k a → IsSample t (k + 1) b → a.chunk ≡ b.chunk
    → b.offset ≡ a.offset + a.size

abbrev pub SamplesDoNotOverlap : Type 0
SamplesDoNotOverlap =
    (t : Tables) (j k : ℕ) (a b : Sample) → j < k → IsSample t j a → IsSample t k b → a.chunk ≡ b.chunk
    → a.offset + a.size ≤ b.offset

abbrev pub TimesFollow : Type 0
TimesFollow =
    (t : Tables) (k : ℕ) (a b : Sample) → IsSample t k a → IsSample t (k + 1) b
    → b.start_time ≡ a.start_time + a.duration

abbrev pub TimesDoNotDecrease : Type 0
TimesDoNotDecrease =
    (t : Tables) (j k : ℕ) (a b : Sample) → j < k → IsSample t j a → IsSample t k b
    → a.start_time + a.duration ≤ b.start_time

-- The last sample ends at the sum of all durations.
abbrev pub DurationsAddUp : Type 0
DurationsAddUp =
    (t : Tables) (k : ℕ) (s : Sample) → k + 1 ≡ sample_count t → IsSample t k s
    → s.start_time + s.duration ≡ sum_by (duration_of t.stts.now.entries) (range_with_len 0 (sample_count t))

-- This is the sum over the entries of stts, if they count as many samples as the track has.
abbrev pub EntriesAddUp : Type 0
EntriesAddUp =
    (t : Tables) (k : ℕ) (s : Sample) → k + 1 ≡ sample_count t
    → length (durations t.stts.now.entries) ≡ sample_count t → IsSample t k s
    → s.start_time + s.duration ≡ sum_by (λ (e : SttsEntry). e.sample_count * e.sample_delta) t.stts.now.entries
