-- The samples of a part, by the origin of its bytes: what the checker decides.
use Rattle.std.specs.Prelude.{ℕ, pos, ◌≡◌, ◌-◌, ◌<◌, List, get_or, length, None, Some, Ok}
use Rattle.std.specs.declared.option.Option.{Option}
use Rattle.mp4_frame.specs.FourCC.{four_cc_of}
use Rattle.mp4_frame.specs.declared.codes.TheConstants as codes
use Rattle.mp4_movie.specs.Descriptions.{descriptions_of}
use Rattle.mp4_movie.specs.Movies.{samples_of}
use Rattle.mp4_movie.specs.declared.info.TrackInfo.{TrackInfo}
use Rattle.mp4_movie.specs.declared.sample_boxes.SampleBoxes.{SampleBoxes}
use Rattle.mp4_movie.specs.declared.track_fragment.TrackFragment.{TrackFragment}
use Rattle.mp4_remux.specs.Carried.{IsTellerOf}
use Rattle.mp4_remux.specs.Groups.{in_group}
use Rattle.mp4_remux.specs.Kept.{KeepsSamples}
use Rattle.mp4_remux.specs.Parts.{IsInRun, LastOf, end_number, first_number, moment_of, nanoseconds, run_count}
use Rattle.mp4_remux.specs.Told.{IsTold, at_track, count}
use Rattle.mp4_remux.specs.Whole.{SameAnswer}
use Rattle.mp4_remux.specs.declared.parts.bound.Bound.{Bound}
use Rattle.mp4_remux.specs.declared.parts.bound.Bound.TheVariants.{From, To}
use Rattle.mp4_remux.specs.declared.parts.bound.Line.{Line}
use Rattle.mp4_remux.specs.declared.parts.bound.Moment.{Moment}
use Rattle.mp4_remux.specs.declared.parts.last.Place.{Place}
use Rattle.mp4_remux.specs.declared.groups.Groups.{Groups}
use Rattle.mp4_remux.specs.declared.parts.part.Part.{Part}
use Rattle.mp4_remux.specs.declared.parts.run.PartTeller.{PartTeller}
use Rattle.mp4_remux.specs.declared.pieces.piece.Piece.{Piece}
use Rattle.mp4_remux.specs.declared.teller.Teller.{Teller}

-- the last sample of these tables and fragments that meets the bound, or `None` if none does
abbrev pub IsLastIn : Option SampleBoxes → List TrackFragment → Line → Bound → Option Place → Type 0
IsLastIn v fs l b r = (m : Teller) × IsTellerOf v fs m × LastOf IsTold m l b (count m) r

abbrev pub run_of : Teller → Option Place → Option Place → ℕ → PartTeller
run_of m first last d = record {
  teller = m;
  first = first_number first;
  length = end_number last - first_number first;
  shift = d;
}

-- the samples of the new tables and fragments are a run of the samples of the old ones, by the pieces
pub record CarriesSpan (ps : List Piece) (first last : Option Place) (v w : Option SampleBoxes)
    (fs gs : List TrackFragment) : Type 0 where
  pub before : Teller
  pub after : Teller
  pub is_before : IsTellerOf v fs before
  pub is_after : IsTellerOf w gs after
  pub earlier_by : ℕ
  pub keeps : KeepsSamples IsInRun run_count IsTold count ps (run_of before first last earlier_by) after

-- the run between the moments m and t
pub record CarriesRun (ps : List Piece) (l : Line) (m t : Moment) (v w : Option SampleBoxes)
    (fs gs : List TrackFragment) : Type 0 where
  pub first : Option Place
  pub is_first : IsLastIn v fs l (From m) first
  pub last : Option Place
  pub is_last : IsLastIn v fs l (To t) last
  pub span : CarriesSpan ps first last v w fs gs

-- the boxes of track n of both files, with these fragments
pub record CarriesRunBoxes (ps : List Piece) (l : Line) (m t : Moment) (B C : List ℕ) (n : ℕ)
    (fs gs : List TrackFragment) : Type 0 where
  pub stsd : SameAnswer descriptions_of B C n
  pub were : Option SampleBoxes
  pub are : Option SampleBoxes
  pub is_were : at_track samples_of B n ≡ Ok were
  pub is_are : at_track samples_of C n ≡ Ok are
  pub run : CarriesRun ps l m t were are fs gs

-- the last sample of track n of the file B, with these fragments
pub record IsLastWith (B : List ℕ) (n : ℕ) (fs : List TrackFragment) (l : Line) (b : Bound) (r : Option Place)
    : Type 0 where
  pub were : Option SampleBoxes
  pub is_were : at_track samples_of B n ≡ Ok were
  pub is_last : IsLastIn were fs l b r

-- a track with this handler is a video
abbrev pub IsVideoInfo : TrackInfo → Type 0
IsVideoInfo t = t.handler ≡ Ok (four_cc_of codes.VIDE)

-- track v is the first video
pub record IsFirstVideo (ts : List TrackInfo) (v : ℕ) : Type 0 where
  pub counted : v < length ts
  pub is_video : (t : TrackInfo) → IsVideoInfo (get_or ts v t)
  pub first : (k : ℕ) (t : TrackInfo) → k < v → ¬ IsVideoInfo (get_or ts k t)

-- the times of the track of this number, whose headers are t
pub record IsLineIn (p : Part) (t : TrackInfo) (n : ℕ) (l : Line) : Type 0 where
  pub scale : t.timescale ≡ Ok l.scale
  pub origin : l.origin ≡ get_or p.origins.items n (pos 0)

-- the run of the first video begins at the moment m. The headers are ts, and the fragments of all tracks are `groups`
pub record StartsIn (p : Part) (ts : List TrackInfo) (groups : Groups) (B : List ℕ) (m : Moment) : Type 0 where
  pub video : ℕ
  pub is_first : IsFirstVideo ts video
  pub line : Line
  pub is_line : (t : TrackInfo) → IsLineIn p (get_or ts video t) video line
  pub id : ℕ
  pub is_id : (t : TrackInfo) → (get_or ts video t).track_id ≡ Ok id
  pub place : Place
  pub is_last : IsLastWith B video (in_group groups id) line (From (nanoseconds p.from)) (Some place)
  pub moment : m ≡ moment_of line place.sample
