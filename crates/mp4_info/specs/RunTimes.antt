-- The durations of the samples of a track, in the form of an `stts`: those of its tables (ISO/IEC 14496-12, 8.6.1.2),
-- and those of the runs of its fragments (8.8.8).
use Rattle.std.specs.Prelude.{ℕ, ◌-◌, ◌==◌, List, [], ◌∷◌, ◌++◌, filter, flat_map, length, map, nat_lt}
use Rattle.std.specs.Prelude.{Bool, Result, Ok, Err, None, Some, if◌then◌else◌}
use Rattle.std.specs.declared.option.Option.{Option}
use Rattle.mp4_info.specs.Totals.{default_duration}
use Rattle.mp4_movie.specs.declared.error.BoxError.{BoxError}
use Rattle.mp4_movie.specs.declared.moof.MoofFragments.{MoofFragments}
use Rattle.mp4_movie.specs.declared.sample_boxes.SampleBoxes.{SampleBoxes}
use Rattle.mp4_movie.specs.declared.track_fragment.TrackFragment.{TrackFragment}
use Rattle.mp4_tables.specs.declared.stts_entry.SttsEntry.{SttsEntry}
use Rattle.mp4_tables.specs.declared.trun.TrunBox.{TrunBox}

abbrev pub table_times : Option SampleBoxes → List SttsEntry
table_times None = []
table_times (Some v) = v.stts.entries

-- an entry counts samples. Entries of no sample say nothing
abbrev pub counts : SttsEntry → Bool
counts e = nat_lt 0 e.sample_count

-- a sample for which a run lists a duration
abbrev pub single : ℕ → SttsEntry
single duration = record { sample_count = 1; sample_delta = duration }

-- those with the default
abbrev pub others : ℕ → ℕ → List SttsEntry
others count default = if count == 0 then [] else record { sample_count = count; sample_delta = default } ∷ []

abbrev pub run_times : TrackFragment → TrunBox → List SttsEntry
run_times x t =
    map single t.sample_durations ++ others (t.sample_count - length t.sample_durations) (default_duration x)

abbrev pub fragment_times : TrackFragment → List SttsEntry
fragment_times x = flat_map (run_times x) x.runs.items

-- those of a fragment, if it is one of the track with this track_ID
abbrev pub answer_times : ℕ → Result TrackFragment BoxError → List SttsEntry
answer_times id (Ok x) = if x.header.track_id == id then fragment_times x else []
answer_times id (Err _) = []

abbrev pub moof_times : ℕ → MoofFragments → List SttsEntry
moof_times id m = flat_map (answer_times id) m.fragments.items

-- those of the fragments of the track, in the order of the file
abbrev pub fragment_times_by : ℕ → List MoofFragments → List SttsEntry
fragment_times_by id moofs = flat_map (moof_times id) moofs

-- those of the tables of a track, then those of its fragments
abbrev pub times_of : Option SampleBoxes → List SttsEntry → List SttsEntry
times_of tables times = filter counts (table_times tables) ++ times
