-- The model of an index in contracts, and the most memory that it takes.
use Rattle.std.specs.Prelude.{ℕ, ◌+◌, ◌*◌, ◌/◌, ◌<◌, ◌==◌, length, if◌then◌else◌}
use Rattle.mp4_samples.specs.declared.sample.Sample.{Sample}
use Rattle.mp4_samples.specs.declared.tables.Tables.{Tables}
use Rattle.mp4_samples.specs.Runs.{Covers}
use Rattle.mp4_samples.specs.Samples.{IsSample, sample_count, ctts_entries}

-- The tables, and the bytes of memory that the index takes in addition.
pub record Indexed : Type 0 where
  pub tables : Tables
  pub bytes : ℕ

-- 8 bytes for each entry of stsc, 12 for each of stts, 4 for each of ctts, and 8 for every 64 sizes that are listed.
abbrev pub most_bytes : Tables → ℕ
most_bytes t =
    8 * length t.stsc.now.entries + 12 * length t.stts.now.entries + 4 * length (ctts_entries t.ctts)
    + (if t.stsz.now.sample_size == 0 then 8 * (sample_count t / 64 + 1) else 0)

-- `s` is the sample that covers `time`.
pub record IsSampleAt (t : Tables) (time : ℕ) (s : Sample) : Type 0 where
  pub number : ℕ
  pub counted : number < sample_count t
  pub covers : Covers t.stts.now.entries time number
  pub sample : IsSample t number s
