-- The durations in headers: that of the media is the sum of its samples (ISO/IEC 14496-12, 8.4.2.3), that of a track
-- the sum of its edits, or its media if it has none (8.3.2.3), and that of the movie its longest track (8.2.2.3).
-- Programs round times, so only a difference of a second or more contradicts.
use Rattle.std.specs.Prelude.{ℕ, ◌-◌, ◌*◌, ◌/◌, ◌^◌, ◌==◌, ◌||◌, nat_lt, min, max, List, length}
use Rattle.std.specs.Prelude.{None, Some, if◌then◌else◌}
use Rattle.std.specs.declared.option.Option.{Option}
use Rattle.mp4_check.specs.declared.duration.Duration.{Duration}
use Rattle.mp4_samples.specs.Edits.{durations_before, edit_in}
use Rattle.mp4_tables.specs.declared.elst_entry.ElstEntry.{ElstEntry}

-- an unknown duration has all bits set
abbrev pub unknown : ℕ → ℕ
unknown version = if version == 0 then 2 ^ 32 - 1 else 2 ^ 64 - 1

abbrev pub distance : ℕ → ℕ → ℕ
distance a b = max a b - min a b

-- the fault of a declared duration, in a timescale, if another one follows from other boxes
abbrev pub duration_fault : ℕ → ℕ → ℕ → ℕ → Option Duration
duration_fault version declared timescale found =
    if (declared == unknown version) || ((timescale == 0) || nat_lt (distance declared found) timescale) then None else
    Some (record { declared = declared; found = found; timescale = timescale })

-- a time in another timescale
abbrev pub converted : ℕ → ℕ → ℕ → ℕ
converted time from to = min (time * to / from) (2 ^ 64 - 1)

abbrev pub or_longer : Option ℕ → ℕ → Option ℕ
or_longer None duration = Some duration
or_longer (Some other) duration = Some (max other duration)

-- the longest duration that is known
abbrev pub longer : Option ℕ → ℕ → ℕ → Option ℕ
longer longest version duration = if duration == unknown version then longest else or_longer longest duration

-- the duration of edits: none if there are no edits, or if the last one has no duration, and so plays all media
abbrev pub edits_duration : List ElstEntry → Option ℕ
edits_duration es =
    if (edit_in es (length es - 1)).segment_duration == 0 then None else
    Some (min (durations_before es (length es)) (2 ^ 64 - 1))
