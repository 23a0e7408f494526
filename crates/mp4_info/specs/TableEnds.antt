-- The first entries of an `stts`.
use Rattle.std.specs.Prelude.{◌≡◌, ◌≤◌, List, length, sum_by, take}
use Rattle.mp4_info.specs.Totals.{sample_time}
use Rattle.mp4_info.specs.declared.table_ends.Passed.{Passed}
use Rattle.mp4_tables.specs.declared.stts_entry.SttsEntry.{SttsEntry}

abbrev pub no_times : SttsEntry
no_times = record { sample_count = 0; sample_delta = 0 }

-- the number of these entries, of their samples, and the time at which these end
pub record Counts (es : List SttsEntry) (p : Passed) : Type 0 where
  pub within : p.entries ≤ length es
  pub samples : p.samples ≡ sum_by (λ (e : SttsEntry). e.sample_count) (take p.entries es)
  pub time : p.time ≡ sample_time (take p.entries es)
