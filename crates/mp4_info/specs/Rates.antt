-- The frame rate and the bit rate of a track, by the durations of its samples.
use Rattle.std.specs.Prelude.{ℕ, ◌-◌, ◌*◌, ◌==◌, ◌&&◌, ◌||◌, nat_le, nat_lt, Bool, List, length, take}
use Rattle.std.specs.Prelude.{slice_index_or, true, false, None, Some, if◌then◌else◌}
use Rattle.std.specs.List.{list_all}
use Rattle.std.specs.declared.option.Option.{Option}
use Rattle.mp4_info.specs.Rounding.{rounded}
use Rattle.mp4_info.specs.Totals.{sample_count}
use Rattle.mp4_info.specs.declared.rates.FrameRate.{FrameRate}
use Rattle.mp4_tables.specs.declared.stts_entry.SttsEntry.{SttsEntry}

abbrev pub no_entry : SttsEntry
no_entry = record { sample_count = 0; sample_delta = 0 }

abbrev pub first_entry : List SttsEntry → SttsEntry
first_entry es = slice_index_or es 0 no_entry

abbrev pub last_entry : List SttsEntry → SttsEntry
last_entry es = slice_index_or es (length es - 1) no_entry

abbrev pub all_have : ℕ → List SttsEntry → Bool
all_have delta es = list_all (λ (e : SttsEntry). e.sample_delta == delta) es

-- All entries have this duration, except that a last entry of one sample may have another: the distance between two
-- samples is the duration of the first of them, and nothing follows the last.
abbrev pub is_steady : ℕ → List SttsEntry → Bool
is_steady delta es =
    all_have delta (take (length es - 1) es)
    && (nat_le (last_entry es).sample_count 1 || ((last_entry es).sample_delta == delta))

-- a number of frames in a number of units of time, none in no time
abbrev pub rate : ℕ → ℕ → Bool → Option FrameRate
rate frames units is_constant =
    if (frames == 0) || (units == 0) then None
    else Some (record {
      frames = frames;
      units = units;
      is_constant = is_constant;
      thousandths = rounded (1000 * frames) units;
    })

-- the frames of a constant rate: one for each duration of a sample
abbrev pub constant_rate : ℕ → ℕ → Option FrameRate
constant_rate timescale delta = rate timescale delta true

-- the average: all samples in the sum of their durations
abbrev pub average_rate : ℕ → ℕ → ℕ → Option FrameRate
average_rate timescale samples time = rate (samples * timescale) time false

-- the frame rate of samples that last for `time`; fewer than two samples have none
abbrev pub frame_rate : ℕ → List SttsEntry → ℕ → Option FrameRate
frame_rate timescale es time =
    if nat_lt (sample_count es) 2 then None
    else if is_steady (first_entry es).sample_delta es then constant_rate timescale (first_entry es).sample_delta
    else average_rate timescale (sample_count es) time

-- the bits of a second, on average over samples that last for `time`
abbrev pub bit_rate : ℕ → ℕ → ℕ → Option ℕ
bit_rate timescale bytes time =
    if (timescale == 0) || (time == 0) then None else Some (rounded (8 * (bytes * timescale)) time)
