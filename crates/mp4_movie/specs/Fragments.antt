-- The fragments of tracks (ISO/IEC 14496-12, 8.8), by the values of their boxes.
use Rattle.std.specs.Prelude.{◌≡◌, ℕ, pos, ◌≤◌, ◌^◌, ◌||◌, ◌⊎◌, Bool, List, [], ◌∷◌, length, Result, Ok, Err}
use Rattle.std.specs.Prelude.{None, Some, if◌then◌else◌}
use Rattle.std.specs.Option.{is_some}
use Rattle.std.specs.declared.option.Option.{Option}
use Rattle.mp4_flat.specs.declared.tfdt.TfdtBox.{TfdtBox}
use Rattle.mp4_flat.specs.declared.trex.TrexBox.{TrexBox}
use Rattle.mp4_frame.specs.FourCC.{four_cc_of}
use Rattle.mp4_frame.specs.declared.codes.TheConstants as codes
use Rattle.mp4_movie.specs.Defaults.{defaults_in, trexes}
use Rattle.mp4_movie.specs.Levels.{Found, all_in}
use Rattle.mp4_movie.specs.Problems.{Problem, NoBase, NoTrex, Records, Returns, ◌>>=◌}
use Rattle.mp4_movie.specs.declared.error.BoxError.{BoxError}
use Rattle.mp4_movie.specs.Tables.{now_of}
use Rattle.mp4_movie.specs.Trafs.{Value, map_ok, traf_of}
use Rattle.mp4_movie.specs.declared.error.MovieError.{MovieError}
use Rattle.mp4_movie.specs.declared.moof.MoofFragments.{MoofFragments}
use Rattle.mp4_movie.specs.declared.track_fragment.TrackFragment.{TrackFragment}
use Rattle.mp4_samples.specs.Fragments.{HasOffset, has_flag, runs_end}
use Rattle.mp4_samples.specs.declared.fragment.Fragment.{Fragment}
use Rattle.mp4_samples.specs.declared.fragment.TheConstants.{DEFAULT_BASE_IS_MOOF}
use Rattle.mp4_tables.specs.declared.tfhd.TfhdBox.{TfhdBox}
use Rattle.mp4_tables.specs.declared.trun.TrunBox.{TrunBox}
use Rattle.mp4_walk.specs.declared.tree_box.TreeBox.{TreeBox}

-- a fragment: the values of its boxes, the defaults of its track, and the two positions that data offsets may count
-- from
pub record Piece : Type 0 where
  pub defaults : TrexBox
  pub header : TfhdBox
  pub time : Option TfdtBox
  pub runs : List TrunBox
  pub moof : ℕ
  pub data_end : ℕ

abbrev pub piece_of : TrackFragment → Piece
piece_of x = record {
  defaults = x.defaults;
  header = x.header;
  time = x.time;
  runs = x.runs.items;
  moof = x.moof;
  data_end = x.data_end;
}

-- the header states the base of data offsets (8.8.7.1)
abbrev pub names_base : TfhdBox → Bool
names_base h = is_some h.base_data_offset || has_flag h.flags DEFAULT_BASE_IS_MOOF

-- the end of the data before a traf. If the header states the base, the position of the moof takes its place, since
-- nothing uses it
abbrev pub data_before : TfhdBox → ℕ → Option ℕ → Option ℕ
data_before h moof end = if names_base h then Some moof else end

abbrev pub or_base : ℕ → ℕ → Option ℕ → Result ℕ Problem
or_base moof id None = Err (NoBase moof id)
or_base moof id (Some n) = Ok n

abbrev pub or_no_trex : ℕ → Option TrexBox → Result TrexBox Problem
or_no_trex id None = Err (NoTrex id)
or_no_trex id (Some v) = Ok v

-- the fragment that a traf is, in the moof at this position, with the defaults of its track, if the data before it end
-- there
abbrev pub fragment_of : Option TrexBox → ℕ → Option ℕ → Value → Result Piece Problem
fragment_of trex moof end t =
    or_no_trex t.header.track_id trex >>= λ defaults.
    or_base moof t.header.track_id (data_before t.header moof end) >>= λ data_end.
    Ok (record {
      defaults = defaults;
      header = t.header;
      time = t.time;
      runs = t.runs;
      moof = moof;
      data_end = data_end;
    })

-- the fragment of the traf whose boxes `boxes` begins with
abbrev pub fragment_at : List ℕ → (ℕ → Option TrexBox) → ℕ → Option ℕ → List TreeBox → Result Piece Problem
fragment_at file defaults moof end boxes =
    traf_of file boxes >>= λ t. fragment_of (defaults t.header.track_id) moof end t

abbrev pub ReturnsAs : {A C : Type 0} → (A → C) → Result A MovieError → Result C Problem → Type 0
ReturnsAs view result r = Returns (map_ok view result) r

-- the fragment as `mp4_samples` takes it, if the samples of the track before it end at `time`
pub record IsFragmentOf (x : Piece) (time : ℕ) (f : Fragment) : Type 0 where
  pub trex : f.trex.now ≡ x.defaults
  pub tfhd : f.tfhd.now ≡ x.header
  pub tfdt : now_of f.tfdt ≡ x.time
  pub runs : f.runs.now ≡ x.runs
  pub moof : f.moof ≡ x.moof
  pub data_end : f.data_end ≡ x.data_end
  pub time_end : f.time_end ≡ time

-- the end of the data of a fragment; none if that is no position in a file
abbrev pub IsEnd : Fragment → Option ℕ → Type 0
IsEnd f (Some n) = pos n ≡ runs_end f (length f.runs.now)
IsEnd f None = (2 ^ 32 ≤ length f.runs.now) ⊎ ¬ HasOffset (runs_end f (length f.runs.now)) 0

-- the end of the data of a traf. It is unknown if the traf is no fragment
abbrev pub EndsAt : Result Piece Problem → Option ℕ → Type 0
EndsAt (Err _) end = end ≡ None
EndsAt (Ok x) end = (f : Fragment) × IsFragmentOf x 0 f × IsEnd f end

-- a stored value or error is this answer, by a view
abbrev pub map_recorded : {A C : Type 0} → (A → C) → Result A BoxError → Result C BoxError
map_recorded view (Ok v) = Ok (view v)
map_recorded view (Err e) = Err e

abbrev pub RecordsAs : {A C : Type 0} → (A → C) → Result A BoxError → Result C Problem → Type 0
RecordsAs view r d = Records (map_recorded view r) d

-- the stored answer for a traf, and the end of its data
pub record IsStep (file : List ℕ) (defaults : ℕ → Option TrexBox) (moof : ℕ) (end : Option ℕ) (boxes : List TreeBox)
    (answer : Result TrackFragment BoxError) (next : Option ℕ) : Type 0 where
  pub answers : RecordsAs piece_of answer (fragment_at file defaults moof end boxes)
  pub ends : EndsAt (fragment_at file defaults moof end boxes) next

-- the answers for these trafs of a moof, in order. The data of a traf begin where those before it end
abbrev pub AreOfTrafs : List ℕ → (ℕ → Option TrexBox) → ℕ → Option ℕ → List Found → List (Result TrackFragment BoxError)
    → Type 0
AreOfTrafs file defaults moof end [] answers = answers ≡ []
AreOfTrafs file defaults moof end (t ∷ ts) answers =
    (next : Option ℕ) × (one : Result TrackFragment BoxError) × (rest : List (Result TrackFragment BoxError))
    × IsStep file defaults moof end t.after one next × AreOfTrafs file defaults moof next ts rest × (answers ≡ one ∷
    rest)

-- the answers for the trafs of the moof at a position, where the data before the first traf end (8.8.7.1)
abbrev pub AreOfMoof : List ℕ → (ℕ → Option TrexBox) → ℕ → List TreeBox → List (Result TrackFragment BoxError) → Type 0
AreOfMoof file defaults moof boxes answers =
    AreOfTrafs file defaults moof (Some moof) (all_in 1 (four_cc_of codes.TRAF) boxes) answers

-- the answers for each moof of the top level, in the order of the file
abbrev pub AreOfMoofs : List ℕ → (ℕ → Option TrexBox) → List Found → List MoofFragments → Type 0
AreOfMoofs file defaults [] moofs = moofs ≡ []
AreOfMoofs file defaults (m ∷ ms) moofs =
    (one : MoofFragments) × (rest : List MoofFragments) × (one.position ≡ m.box.position)
    × AreOfMoof file defaults m.box.position m.after one.fragments.items × AreOfMoofs file defaults ms rest
    × (moofs ≡ one ∷ rest)

-- the answers for all moofs of a file with these boxes, with the defaults of its movie
abbrev pub AreFragments : List ℕ → List TreeBox → List MoofFragments → Type 0
AreFragments file boxes moofs =
    AreOfMoofs file (λ q. defaults_in file q (trexes boxes)) (all_in 0 (four_cc_of codes.MOOF) boxes) moofs
