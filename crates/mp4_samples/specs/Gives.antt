-- The progress of an iterator over the samples, and the result of a call of `next`.
use Rattle.std.specs.Prelude.{ℕ, ◌≡◌, ◌+◌, ◌-◌, ◌<◌, ◌≤◌, Option, Some, None}
use Rattle.mp4_samples.specs.declared.sample.Sample.{Sample}
use Rattle.mp4_samples.specs.declared.tables.Tables.{Tables}
use Rattle.mp4_samples.specs.Samples.{IsSample, sample_count}

-- The tables, and the number of the next sample.
pub record Progress : Type 0 where
  pub tables : Tables
  pub number : ℕ

abbrev pub begins : Tables → Progress
begins t = record { tables = t; number = 0 }

abbrev pub samples_left : Progress → ℕ
samples_left s = sample_count s.tables - s.number

-- The next sample, after which the number is one higher. It is `None` if and only if all samples were returned.
abbrev pub GivesSample : Progress → Option Sample → Progress → Type 0
GivesSample s (Some x) t =
    (s.number < sample_count s.tables) × IsSample s.tables s.number x × (t.tables ≡ s.tables)
    × (t.number ≡ s.number + 1)
GivesSample s None t = (sample_count s.tables ≤ s.number) × (t ≡ s)
