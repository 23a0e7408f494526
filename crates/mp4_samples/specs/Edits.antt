-- The map of an edit list from times of a track's media to times of its presentation (ISO/IEC 14496-12, 8.6.5 and
-- 8.6.6). Edits are counted from 0. The number of ticks in a second is the product of the two timescales. So each unit
-- of either timescale is a whole number of ticks, and nothing is rounded.
use Rattle.std.specs.Prelude.{ℕ, ℤ, pos, ◌≡◌, ◌+◌, ◌+ℤ◌, ◌-◌, ◌*◌, ◌<◌, ◌≤◌, ◌^◌, ◌==◌, Bool, true, false, ◌&&◌, ◌||◌}
use Rattle.std.specs.Prelude.{not, nat_lt, List, [], ◌∷◌, length, take, sum_by, slice_index_or, Option, Some, None}
use Rattle.std.specs.Prelude.{if◌then◌else◌}
use Rattle.std.specs.Borrow.{Bor}
use Rattle.mp4_tables.specs.ElstEntry.{is_long}
use Rattle.mp4_tables.specs.declared.elst.ElstBox.{ElstBox}
use Rattle.mp4_tables.specs.declared.elst_entry.ElstEntry.{ElstEntry}
use Rattle.mp4_samples.specs.declared.sample.Sample.{Sample}
use Rattle.mp4_samples.specs.declared.presentation.Presentation.{Presentation}
use Rattle.mp4_samples.specs.declared.edit_fault.EditFault.{EditFault}
use Rattle.mp4_samples.specs.declared.edit_fault.EditFault.TheVariants.{MovieTimescale, MediaTimescale, MediaTime, Rate}
use Rattle.mp4_samples.specs.declared.edit_fault.EditFault.TheVariants.{Durations}

-- The edits, true if their times have 64 bits and false for 32, and the timescales of mvhd and mdhd.
pub record EditList : Type 0 where
  pub entries : List ElstEntry
  pub long : Bool
  pub movie_timescale : ℕ
  pub media_timescale : ℕ

-- An edit that presents the media starting at time 0. As the last edit it has no end.
abbrev pub whole_media : ElstEntry
whole_media = record { segment_duration = 0; media_time = 0; media_rate = 1; media_rate_fraction = 0 }

-- A list without entries means the same as no list.
abbrev pub edits_in : List ElstEntry → List ElstEntry
edits_in [] = whole_media ∷ []
edits_in (e ∷ es) = e ∷ es

-- The whole media without an elst, otherwise its edits.
abbrev pub edits_of : Option (Bor ElstBox) → List ElstEntry
edits_of None = whole_media ∷ []
edits_of (Some b) = edits_in b.now.entries

abbrev pub has_long_times : Option (Bor ElstBox) → Bool
has_long_times None = false
has_long_times (Some b) = is_long b.now.version

abbrev pub edit_list : Option (Bor ElstBox) → ℕ → ℕ → EditList
edit_list elst movie media =
    record { entries = edits_of elst; long = has_long_times elst; movie_timescale = movie; media_timescale = media }

-- Times of the movie and of the media in ticks.
abbrev pub movie_ticks : EditList → ℕ → ℕ
movie_ticks l time = time * l.media_timescale

abbrev pub media_ticks : EditList → ℕ → ℕ
media_ticks l time = time * l.movie_timescale

-- Edit `k`, or an edit without a duration past the last edit.
abbrev pub no_edit : ElstEntry
no_edit = record { segment_duration = 0; media_time = 0; media_rate = 0; media_rate_fraction = 0 }

abbrev pub edit_in : List ElstEntry → ℕ → ElstEntry
edit_in es k = slice_index_or es k no_edit

abbrev pub edit_at : EditList → ℕ → ElstEntry
edit_at l k = edit_in l.entries k

-- Media times are signed. -1 has all bits set, and no other time is below 0.
abbrev pub minus_one : Bool → ℕ
minus_one long = if long then 2 ^ 64 - 1 else 2 ^ 32 - 1

abbrev pub above_all_times : Bool → ℕ
above_all_times long = if long then 2 ^ 63 else 2 ^ 31

abbrev pub is_empty_edit : Bool → ElstEntry → Bool
is_empty_edit long e = e.media_time == minus_one long

-- An edit at rate 0, in which the time of the media does not change.
abbrev pub is_dwell : ElstEntry → Bool
is_dwell e = e.media_rate == 0

abbrev pub plays : Bool → ElstEntry → Bool
plays long e = not (is_empty_edit long e) && not (is_dwell e)

-- The sum of the durations of the first `k` edits, in the timescale of the movie.
unfoldable pub durations_before : List ElstEntry → ℕ → ℕ
durations_before es k = sum_by (λ (e : ElstEntry). e.segment_duration) (take k es)

-- Edit `k` begins when the edits before it have ended.
abbrev pub begin_of : EditList → ℕ → ℕ
begin_of l k = durations_before l.entries k

-- A last edit that plays and has no duration shows all of the media, including that of later fragments.
abbrev pub is_open : EditList → ℕ → Bool
is_open l k = k + 1 == length l.entries && ((edit_at l k).segment_duration == 0 && plays l.long (edit_at l k))

-- Edit `k` lasts for more than `ticks`.
abbrev pub Lasts : EditList → ℕ → ℕ → Type 0
Lasts l k ticks = is_open l k ≡ false → ticks < movie_ticks l (edit_at l k).segment_duration

-- Edit `k` has begun at tick `t` of the presentation, and has not ended.
pub record Covers (l : EditList) (k t : ℕ) : Type 0 where
  pub within : k < length l.entries
  pub begun : movie_ticks l (begin_of l k) ≤ t
  pub lasts : Lasts l k (t - movie_ticks l (begin_of l k))

-- The tick of the media that edit `k` presents at tick `t`.
abbrev pub media_at : EditList → ℕ → ℕ → ℕ
media_at l k t =
    media_ticks l (edit_at l k).media_time + (if is_dwell (edit_at l k) then 0 else t - movie_ticks l (begin_of l k))

-- Edit `k` shows tick `x` of the media at tick `t` of the presentation. Times of the media have at most 64 bits.
pub record Shows (l : EditList) (k t x : ℕ) : Type 0 where
  pub covers : Covers l k t
  pub some : is_empty_edit l.long (edit_at l k) ≡ false
  pub media : x ≡ media_at l k t
  pub exists : x < media_ticks l (2 ^ 64)

-- Edit `k` presents time `c` of the media at tick `t`, when it first shows this time.
pub record Presents (l : EditList) (k c t : ℕ) : Type 0 where
  pub shows : Shows l k t (media_ticks l c)
  pub first : (u : ℕ) → Shows l k u (media_ticks l c) → t ≤ u

-- The tick of the media that is shown at tick `t`, or `None` if there is none.
abbrev pub MediaAt : EditList → ℕ → Option ℕ → Type 0
MediaAt l t (Some x) = (k : ℕ) × Shows l k t x
MediaAt l t None = (k x : ℕ) → ¬ Shows l k t x

-- The edit that covers tick `t`, or `None` if there is none.
abbrev pub EditAt : EditList → ℕ → Option ℕ → Type 0
EditAt l t (Some k) = Covers l k t
EditAt l t None = (k : ℕ) → ¬ Covers l k t

-- The first presentation of time `c` of the media by edit `first` or a later edit, or `None` if there is none.
abbrev pub FirstPresentation : EditList → ℕ → ℕ → Option Presentation → Type 0
FirstPresentation l first c (Some p) =
    (first ≤ p.edit) × Presents l p.edit c p.ticks
    × ((k t : ℕ) → first ≤ k → k < p.edit → ¬ Shows l k t (media_ticks l c))
FirstPresentation l first c None = (k t : ℕ) → first ≤ k → ¬ Shows l k t (media_ticks l c)

-- The tick at which edit `k` presents time `c` of the media, or `None` if it does not.
abbrev pub PresentationIn : EditList → ℕ → ℕ → Option ℕ → Type 0
PresentationIn l k c (Some t) = Presents l k c t
PresentationIn l k c None = (t : ℕ) → ¬ Shows l k t (media_ticks l c)

-- A media time is -1 or at least 0 in its width.
abbrev pub is_media_time : Bool → ElstEntry → Bool
is_media_time long e = nat_lt e.media_time (above_all_times long) || is_empty_edit long e

abbrev pub is_rate : ElstEntry → Bool
is_rate e = nat_lt e.media_rate 2 && e.media_rate_fraction == 0

-- Every edit passes the test.
abbrev pub AllPass : (ElstEntry → Bool) → List ElstEntry → Type 0
AllPass passes es = (k : ℕ) → k < length es → passes (edit_in es k) ≡ true

-- Edit `k` fails the test.
pub record Fails (passes : ElstEntry → Bool) (es : List ElstEntry) (k : ℕ) : Type 0 where
  pub within : k < length es
  pub fails : passes (edit_in es k) ≡ false

-- The conditions on an edit list.
pub record AreEdits (l : EditList) : Type 0 where
  pub movie : 0 < l.movie_timescale
  pub media : 0 < l.media_timescale
  pub times : AllPass (is_media_time l.long) l.entries
  pub rates : AllPass is_rate l.entries
  pub fits : durations_before l.entries (length l.entries) < 2 ^ 64

-- The meaning of each fault of an edit list.
abbrev pub Faults : EditList → EditFault → Type 0
Faults l MovieTimescale = l.movie_timescale ≡ 0
Faults l MediaTimescale = l.media_timescale ≡ 0
Faults l (MediaTime k time) = Fails (is_media_time l.long) l.entries k × (time ≡ (edit_at l k).media_time)
Faults l (Rate k rate fraction) =
    Fails is_rate l.entries k × (rate ≡ (edit_at l k).media_rate) × (fraction ≡ (edit_at l k).media_rate_fraction)
Faults l (Durations k) = (k < length l.entries) × (2 ^ 64 ≤ durations_before l.entries (k + 1))

-- The composition time of a sample, in the timescale of the media.
abbrev pub composition_time : Sample → ℤ
composition_time s = pos s.start_time +ℤ s.rendering_offset

-- The composition time of a sample as a number of 64 bits, or `None` if it is not one.
abbrev pub CompositionTime : Sample → Option ℕ → Type 0
CompositionTime s (Some time) = pos time ≡ composition_time s
CompositionTime s None = (time : ℕ) → time < 2 ^ 64 → ¬ (pos time ≡ composition_time s)
