-- The time at which the samples of the tables of a track end (ISO/IEC 14496-12, 8.6.1.2).
use Rattle.std.specs.Prelude.{ℕ, ◌-◌, ◌*◌, ◌^◌, List, Result, Ok, None, Some, min, sum_by}
use Rattle.std.specs.declared.option.Option.{Option}
use Rattle.mp4_movie.specs.Movies.{samples_of}
use Rattle.mp4_movie.specs.Problems.{Problem, ◌>>=◌}
use Rattle.mp4_movie.specs.declared.sample_boxes.SampleBoxes.{SampleBoxes}
use Rattle.mp4_tables.specs.declared.stts_entry.SttsEntry.{SttsEntry}
use Rattle.mp4_walk.specs.declared.tree_box.TreeBox.{TreeBox}

-- the sum of the durations of the samples that the entries count
abbrev pub time_of : List SttsEntry → ℕ
time_of es = sum_by (λ (e : SttsEntry). e.sample_count * e.sample_delta) es

-- the end of these samples: the largest time stands for all later ones
abbrev pub end_of : List SttsEntry → ℕ
end_of es = min (time_of es) (2 ^ 64 - 1)

-- the end of the samples of the tables of a track. A track that has no samples ends at 0
abbrev pub end_by : Option SampleBoxes → ℕ
end_by None = 0
end_by (Some t) = end_of t.stts.entries

abbrev pub time_end_of : List ℕ → List TreeBox → Result ℕ Problem
time_end_of file trak = samples_of file trak >>= λ tables. Ok (end_by tables)
