-- The row of a sample.
use Rattle.std.specs.Prelude.{◌≡◌, ℕ, ◌*◌, ◌/◌, ◌⊎◌, Bool, None, Some}
use Rattle.std.specs.Borrow.{Bor}
use Rattle.std.specs.declared.option.Option.{Option}
use Rattle.mp4_inspect_samples.specs.declared.clock.Clock.{Clock}
use Rattle.mp4_inspect_samples.specs.declared.row.Row.{Row}
use Rattle.mp4_inspect_samples.specs.declared.row.RowRule.{RowRule}
use Rattle.mp4_inspect_samples.specs.declared.row.Shown.{Shown}
use Rattle.mp4_inspect_samples.specs.declared.row.Shown.TheVariants as shown
use Rattle.mp4_samples.specs.Edits.{CompositionTime, EditList, FirstPresentation, composition_time}
use Rattle.mp4_samples.specs.declared.sample.Sample.{Sample}

-- what the rows of a track have besides its samples: its track_ID if it can be read, its timescale and the unit of
-- times, its edit list if times are those of the presentation, and whether only sync samples have rows
pub record Labels : Type 0 where
  pub track : Option ℕ
  pub clock : Clock
  pub edits : Option EditList
  pub sync : Bool

abbrev pub edits_in : Option (Bor EditList) → Option EditList
edits_in None = None
edits_in (Some b) = Some b.now

abbrev pub labels_of : RowRule → Labels
labels_of r = record { track = r.track; clock = r.clock; edits = edits_in r.edits; sync = r.sync }

-- the first presentation of a sample by an edit list (ISO/IEC 14496-12, 8.6.6)
abbrev pub IsEdited : EditList → Sample → Shown → Type 0
IsEdited l s (shown.At _) = ⊥
IsEdited l s (shown.Edited ticks per_second units) =
    (time edit : ℕ) × CompositionTime s (Some time)
    × FirstPresentation l 0 time (Some (record { edit = edit; ticks = ticks }))
    × (per_second ≡ l.movie_timescale * l.media_timescale) × (units ≡ ticks / l.movie_timescale)
IsEdited l s shown.Never =
    CompositionTime s None ⊎ ((time : ℕ) × CompositionTime s (Some time) × FirstPresentation l 0 time None)

-- The time at which a sample is presented. Without an edit list it is the composition time: the decoding time plus the
-- composition offset (8.6.1.3 and 8.8.8).
abbrev pub IsShown : Option EditList → Sample → Shown → Type 0
IsShown None s t = t ≡ shown.At (composition_time s)
IsShown (Some l) s t = IsEdited l s t

-- the row of a sample with this number in a track
abbrev pub row_of : Labels → ℕ → Sample → Shown → Row
row_of l number s t = record {
  track = l.track;
  number = number;
  offset = s.offset;
  size = s.size;
  decode_time = s.start_time;
  presentation = t;
  duration = s.duration;
  is_sync = s.is_sync;
  description = s.sample_description_index;
  clock = l.clock;
}
