-- The duration of a track (ISO/IEC 14496-12, 8.3.2 and 8.6.6), in ticks.
use Rattle.std.specs.Prelude.{ℕ, ◌+◌, ◌-◌, ◌*◌, ◌^◌, ◌==◌, ◌&&◌, not, Bool, false, List, [], ◌∷◌, length, min}
use Rattle.std.specs.Prelude.{sum_by, None, Some, if◌then◌else◌}
use Rattle.std.specs.declared.option.Option.{Option}
use Rattle.mp4_info.specs.Rounding.{rounded}
use Rattle.mp4_info.specs.declared.durations.Duration.{Duration}
use Rattle.mp4_samples.specs.Edits.{EditList, edit_at, edits_in, media_ticks, movie_ticks, plays, whole_media}
use Rattle.mp4_tables.specs.ElstEntry.{is_long}
use Rattle.mp4_tables.specs.declared.elst.ElstBox.{ElstBox}
use Rattle.mp4_tables.specs.declared.elst_entry.ElstEntry.{ElstEntry}

-- the edits of a track, one for the whole media if there are none, and the width of their times
abbrev pub edits_of : Option ElstBox → List ElstEntry
edits_of None = whole_media ∷ []
edits_of (Some v) = edits_in v.entries

abbrev pub has_long_times : Option ElstBox → Bool
has_long_times None = false
has_long_times (Some v) = is_long v.version

abbrev pub edit_list : Option ElstBox → ℕ → ℕ → EditList
edit_list elst movie media =
    record { entries = edits_of elst; long = has_long_times elst; movie_timescale = movie; media_timescale = media }

-- the sum of the durations of edits, in the timescale of the movie: the largest time stands for all larger ones
abbrev pub edited_time : List ElstEntry → ℕ
edited_time es = min (sum_by (λ (e : ElstEntry). e.segment_duration) es) (2 ^ 64 - 1)

abbrev pub last_edit : EditList → ElstEntry
last_edit l = edit_at l (length l.entries - 1)

-- an edit that plays and has no duration
abbrev pub is_endless : Bool → ElstEntry → Bool
is_endless long e = (e.segment_duration == 0) && plays long e

-- as the last edit it lasts up to the end of the media
abbrev pub endless_ticks : EditList → ElstEntry → ℕ → ℕ
endless_ticks l e end = if is_endless l.long e then media_ticks l (end - e.media_time) else 0

-- The ticks of a track whose media end at the composition time `end`, in the timescale of the media. A second has as
-- many ticks as the product of the timescales of the movie and of the media, so nothing is rounded. Without an edit
-- list, one edit shows all of the media.
abbrev pub edited_ticks : EditList → ℕ → ℕ
edited_ticks l end = movie_ticks l (edited_time l.entries) + endless_ticks l (last_edit l) end

-- a number of ticks, and the thousandths of a second; none if a second has no tick
abbrev pub of_ticks : ℕ → ℕ → Option Duration
of_ticks ticks per_second =
    if per_second == 0 then None
    else Some (record {
      ticks = ticks;
      ticks_per_second = per_second;
      thousandths = rounded (1000 * ticks) per_second;
    })

abbrev pub has_edits : Option ElstBox → Bool
has_edits None = false
has_edits (Some v) = not (length v.entries == 0)

-- the duration of a track: that of its edits, whose media times are composition times (8.6.6), or of its media if there
-- are no edits
abbrev pub duration_of : Option ElstBox → ℕ → ℕ → ℕ → ℕ → Option Duration
duration_of elst movie media end shown =
    if has_edits elst then of_ticks (edited_ticks (edit_list elst movie media) shown) (movie * media)
    else of_ticks end media
