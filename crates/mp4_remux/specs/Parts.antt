-- A part of a file: a run of samples of each track, chosen by times of the presentation. Both files are whole files.
use Rattle.std.specs.Prelude.{ℕ, ℤ, pos, negsuc, ◌≡◌, ◌+◌, ◌-◌, ◌-ℤ◌, ◌*◌, ◌<◌, ◌≤◌, ◌⊎◌, true, List, get_or, None}
use Rattle.std.specs.Prelude.{Some, Ok}
use Rattle.std.specs.declared.option.Option.{Option}
use Rattle.mp4_frame.specs.FourCC.{four_cc_of}
use Rattle.mp4_frame.specs.declared.codes.TheConstants as codes
use Rattle.mp4_movie.specs.Descriptions.{descriptions_of}
use Rattle.mp4_movie.specs.Movies.{handler, timescale, track_id}
use Rattle.mp4_samples.specs.Edits.{composition_time}
use Rattle.mp4_samples.specs.declared.sample.Sample.{Sample}
use Rattle.mp4_remux.specs.Origins.{HasOrigins}
use Rattle.mp4_remux.specs.Told.{IsTeller, IsTold, at_track, count}
use Rattle.mp4_remux.specs.Tracks.{IsGoing, number_of_track, teller_of}
use Rattle.mp4_remux.specs.Whole.{IsSame, SameAnswer, track_count}
use Rattle.mp4_remux.specs.declared.parts.bound.Bound.{Bound}
use Rattle.mp4_remux.specs.declared.parts.bound.Bound.TheVariants.{From, To}
use Rattle.mp4_remux.specs.declared.parts.bound.Line.{Line}
use Rattle.mp4_remux.specs.declared.parts.bound.Moment.{Moment}
use Rattle.mp4_remux.specs.declared.parts.last.Place.{Place}
use Rattle.mp4_remux.specs.declared.parts.part.Part.{Part}
use Rattle.mp4_remux.specs.declared.parts.run.PartSamples.{PartSamples}
use Rattle.mp4_remux.specs.declared.parts.run.PartTeller.{PartTeller}
use Rattle.mp4_remux.specs.declared.teller.Teller.{Teller}

abbrev pub at_least_zero : ℤ → ℕ
at_least_zero (pos n) = n
at_least_zero (negsuc n) = 0

-- the time at which a sample is presented, in ticks of its track, or 0 if it is presented earlier. The time `origin` of
-- the media is presented at 0
abbrev pub time_on : Line → Sample → ℕ
time_on l s = at_least_zero (composition_time s -ℤ l.origin)

-- a sync sample is presented at the moment or before it; a sample is presented before the moment. Both times are
-- fractions of a second, which are compared without rounding
abbrev pub Meets : Line → Bound → Sample → Type 0
Meets l (From m) s = (s.is_sync ≡ true) × (time_on l s * m.scale ≤ m.ticks * l.scale)
Meets l (To m) s = time_on l s * m.scale < m.ticks * l.scale

module _ {T : Type 0} (is : T → ℕ → Sample → Type 0) (t : T) (l : Line) (b : Bound) where
  -- the last of the first n samples that meets the bound, or `None` if none does
  abbrev pub LastOf : ℕ → Option Place → Type 0
  LastOf n (Some p) =
      (p.number < n) × is t p.number p.sample × Meets l b p.sample
      × ((k : ℕ) (s : Sample) → p.number < k → k < n → is t k s → ¬ Meets l b s)
  LastOf n None = (k : ℕ) (s : Sample) → k < n → is t k s → ¬ Meets l b s

-- the sample of this number is the last one that meets the bound, if it does
abbrev pub IsLater : Line → Bound → ℕ → Sample → Option Place → Option Place → Type 0
IsLater l b n s last r =
    (Meets l b s × (r ≡ Some (record { number = n; sample = s }))) ⊎ ((¬ Meets l b s) × (r ≡ last))

-- the last sample of track n of the file B that meets the bound, or `None` if none does
abbrev pub IsLast : List ℕ → ℕ → Line → Bound → Option Place → Type 0
IsLast B n l b r = (m : Teller) × IsTeller B n m × LastOf IsTold m l b (count m) r

-- the times of track n of the file B
pub record IsLine (p : Part) (B : List ℕ) (n : ℕ) (l : Line) : Type 0 where
  pub scale : at_track timescale B n ≡ Ok l.scale
  pub origin : l.origin ≡ get_or p.origins.items n (pos 0)

abbrev pub IsVideo : List ℕ → ℕ → Type 0
IsVideo B n = at_track handler B n ≡ Ok (four_cc_of codes.VIDE)

-- this many nanoseconds
abbrev pub nanoseconds : ℕ → Moment
nanoseconds n = record { ticks = n; scale = 1000000000 }

abbrev pub moment_of : Line → Sample → Moment
moment_of l s = record { ticks = time_on l s; scale = l.scale }

-- the first video of the file B has a last sync sample at `from` or before, which is presented at the moment m
pub record Starts (p : Part) (B : List ℕ) (m : Moment) : Type 0 where
  pub video : ℕ
  pub counted : video < track_count B
  pub is_video : IsVideo B video
  pub first : (k : ℕ) → k < video → ¬ IsVideo B k
  pub line : Line
  pub is_line : IsLine p B video line
  pub place : Place
  pub is_last : IsLast B video line (From (nanoseconds p.from)) (Some place)
  pub moment : m ≡ moment_of line place.sample

-- a run begins with this sample, or else with the first one
abbrev pub first_number : Option Place → ℕ
first_number None = 0
first_number (Some p) = p.number

-- a run ends after this sample, or else before the first one
abbrev pub end_number : Option Place → ℕ
end_number None = 0
end_number (Some p) = p.number + 1

-- the sample with a decode time that is less by d
abbrev pub earlier : ℕ → Sample → Sample
earlier d s = record s { start_time = s.start_time - d }

-- sample j of a track of the file B is sample k of a track of the file C, except that its decode time is less by d
pub record KeepsEarlier (B C : List ℕ) (m n : Teller) (d j k : ℕ) : Type 0 where
  pub before : Sample
  pub after : Sample
  pub is_before : IsTold m j before
  pub is_after : IsTold n k after
  pub late : d ≤ before.start_time
  pub same : IsSame B C (earlier d before) after

-- Track n of the file C has the same track_ID, timescale, handler type and `stsd` as track n of the file B, and a run
-- of its samples, in the same order. The run begins with the last sync sample at the moment m or before, and ends after
-- the last sample that is presented before `to`. All decode times are less by the same number
pub record KeepsRun (p : Part) (m : Moment) (B C : List ℕ) (n : ℕ) : Type 0 where
  pub id : SameAnswer track_id B C n
  pub scale : SameAnswer timescale B C n
  pub handler_type : SameAnswer handler B C n
  pub stsd : SameAnswer descriptions_of B C n
  pub line : Line
  pub is_line : IsLine p B n line
  pub first : Option Place
  pub is_first : IsLast B n line (From m) first
  pub last : Option Place
  pub is_last : IsLast B n line (To (nanoseconds p.to)) last
  pub before : Teller
  pub after : Teller
  pub is_before : IsTeller B n before
  pub is_after : IsTeller C n after
  pub earlier_by : ℕ
  pub counted : count after ≡ end_number last - first_number first
  pub each : (k : ℕ) → k < count after → KeepsEarlier B C before after earlier_by (first_number first + k) k

-- The file C has as many tracks as the file B, and a run of the samples of each. All runs begin at the time at which
-- that of the first video does
pub record KeepsPart (p : Part) (B C : List ℕ) : Type 0 where
  pub counted : track_count C ≡ track_count B
  pub start : Moment
  pub starts : Starts p B start
  pub tracks : (n : ℕ) → n < track_count B → KeepsRun p start B C n

-- sample k of the run
pub record IsInRun (r : PartTeller) (k : ℕ) (s : Sample) : Type 0 where
  pub old : Sample
  pub counted : r.first + k < count r.teller
  pub is_old : IsTold r.teller (r.first + k) old
  pub late : r.shift ≤ old.start_time
  pub is : s ≡ earlier r.shift old

abbrev pub run_count : PartTeller → ℕ
run_count r = r.length

abbrev pub run_teller : PartSamples → PartTeller
run_teller s = record { teller = teller_of s.samples; first = s.first; length = s.length; shift = s.shift }

abbrev pub run_number : PartSamples → ℕ
run_number s = s.passed

-- the samples of the track are as far
pub record IsRunGoing (s : PartSamples) : Type 0 where
  pub going : IsGoing s.samples
  pub number : number_of_track s.samples ≡ s.first + s.passed

-- the file C is the part p of the file B, by the edit lists of B
abbrev pub IsPart : Part → List ℕ → List ℕ → Type 0
IsPart p B C = HasOrigins p B × KeepsPart p B C
