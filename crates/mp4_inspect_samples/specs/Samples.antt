-- The samples of a file: the rows of its tracks, and the faults because of which samples are not listed.
use Rattle.std.specs.Prelude.{◌≡◌, ℕ, ◌==◌, ◌&&◌, ◌||◌, not, Bool, true, false, is_some, List, [], ◌∷◌, ◌++◌}
use Rattle.std.specs.Prelude.{length, map, Result, Ok, Err, None, Some, if◌then◌else◌}
use Rattle.std.specs.BTreeMap.{get}
use Rattle.std.specs.Io.KnownBytes.{Appends}
use Rattle.std.specs.List.Sorted.{IsStrictlySortedBy}
use Rattle.std.specs.Ordering.{eq_by_cmp, nat_cmp}
use Rattle.std.specs.Set.{is_member}
use Rattle.std.specs.declared.option.Option.{Option}
use Rattle.mp4_frame.specs.FourCC.{four_cc_of}
use Rattle.mp4_frame.specs.declared.codes.TheConstants as codes
use Rattle.mp4_movie.specs.Defaults.{AreFaults, trexes}
use Rattle.mp4_movie.specs.Fragments.{AreFragments}
use Rattle.mp4_movie.specs.Infos.{AreInfos}
use Rattle.mp4_movie.specs.Levels.{Found, all_in, first_in, movie_in}
use Rattle.mp4_movie.specs.Movies.{samples_of, traks}
use Rattle.mp4_movie.specs.declared.error.BoxError.{BoxError}
use Rattle.mp4_movie.specs.declared.error.BoxError.TheVariants as errors
use Rattle.mp4_movie.specs.declared.info.TrackInfo.{TrackInfo}
use Rattle.mp4_walk.specs.FileBoxes.{boxes_of}
use Rattle.mp4_walk.specs.declared.tree_box.TreeBox.{TreeBox}
use Rattle.mp4_inspect_samples.specs.Rows.{end_text, front_text}
use Rattle.mp4_inspect_samples.specs.Tracks.{TrackInputs, WritesNothing, WritesTimed}
use Rattle.mp4_inspect_samples.specs.Trafs.{Traf, added, header_faults, stored_for, trafs_of, with_id}
use Rattle.mp4_inspect_samples.specs.declared.choice.Choice.{Choice}
use Rattle.mp4_inspect_samples.specs.declared.fault.Fault.{Fault}
use Rattle.mp4_inspect_samples.specs.declared.fault.Fault.TheVariants as faults
use Rattle.mp4_inspect_samples.specs.declared.fault.TrackFault.{TrackFault}
use Rattle.mp4_inspect_samples.specs.declared.fault.TrackName.{TrackName}
use Rattle.mp4_inspect_samples.specs.declared.fault.TrackName.TheVariants as names
use Rattle.mp4_inspect_samples.specs.declared.fragments.TrackTraf.{TrackTraf}
use Rattle.mp4_inspect_samples.specs.declared.limit.Limit.{Limit}
use Rattle.mp4_inspect_samples.specs.declared.samples_of_file.MovieParts.{MovieParts}
use Rattle.mp4_inspect_samples.specs.declared.tracks.Ahead.{Ahead}

-- ---- which tracks

-- the name of a track: its track_ID, or the position of its trak if that can't be read
abbrev pub named : ℕ → Result ℕ BoxError → TrackName
named position (Ok id) = names.Id id
named position (Err _) = names.At position

-- the fault of a track whose track_ID can't be read
abbrev pub name_faults : ℕ → Result ℕ BoxError → List TrackFault
name_faults position (Ok id) = []
name_faults position (Err e) = record { track = Some (names.At position); fault = faults.Box e } ∷ []

-- these track_IDs have it
abbrev pub is_met : ℕ → List ℕ → Bool
is_met q [] = false
is_met q (id ∷ met) = is_met q met || (id == q)

-- the track_IDs of tracks, after one more
abbrev pub with_name : List ℕ → TrackName → List ℕ
with_name met (names.Id id) = id ∷ met
with_name met (names.At _) = met

-- a track is the first of its track_ID, if those before it have these
abbrev pub is_first : List ℕ → TrackName → Bool
is_first met (names.Id id) = not (is_met id met)
is_first met (names.At _) = false

abbrev pub has_id : TrackName → ℕ → Bool
has_id (names.Id id) q = id == q
has_id (names.At _) q = false

-- The samples of a track are asked for: those of all tracks, or of the first track with this track_ID.
abbrev pub is_wanted : Option ℕ → List ℕ → TrackName → Bool
is_wanted None met name = true
is_wanted (Some q) met name = has_id name q && is_first met name

-- the trafs of a track. If several tracks have one track_ID, the first has them
abbrev pub trafs_for : List Traf → List ℕ → TrackName → List TrackTraf
trafs_for trafs met (names.Id id) = if is_met id met then [] else with_id id trafs
trafs_for trafs met (names.At _) = []

-- ---- the tracks

-- what the rows of tracks need of the rest of the file
pub record Inputs : Type 0 where
  pub file : List ℕ
  pub choice : Choice
  pub trafs : List Traf

abbrev pub limit_of : Choice → List ℕ → Limit
limit_of choice file = record { length = length file; beyond = choice.beyond }

abbrev pub track_fault : TrackName → Option Fault → List TrackFault
track_fault name None = []
track_fault name (Some e) = record { track = Some name; fault = e } ∷ []

-- the timescale of media, if it was read
abbrev pub read_scale : Result ℕ BoxError → Option ℕ
read_scale (Ok ticks) = Some ticks
read_scale (Err _) = None

-- what the rows of a track need besides its edit list
abbrev pub inputs_at : Inputs → List ℕ → TrackName → Result ℕ BoxError → List TreeBox → TrackInputs
inputs_at i met name media trak = record {
  limit = limit_of i.choice i.file;
  form = i.choice.form;
  choice = i.choice;
  name = name;
  timescale = read_scale media;
  trafs = trafs_for i.trafs met name;
  tables = samples_of i.file trak;
}

-- the rows of a track, if they are asked for, and its fault
abbrev pub WritesIf : Bool → Inputs → List TreeBox → List ℕ → TrackName → Result ℕ BoxError → List TreeBox → Bool
    → Bool → Option (List ℕ) → Option (List ℕ) → List TrackFault → Type 0
WritesIf true i movie met name media trak follows is_followed old new told =
    (fault : Option Fault)
    × WritesTimed i.choice.edits i.file movie trak media (inputs_at i met name media trak) follows is_followed old new
    fault
    × (told ≡ track_fault name fault)
WritesIf false i movie met name media trak follows is_followed old new told =
    (told ≡ []) × WritesNothing follows is_followed old new

-- a track is written and its faults are stored, if the tracks before it have these track_IDs. `movie` begins with the
-- boxes inside the moov
abbrev pub WritesOne : Inputs → List TreeBox → List ℕ → List TreeBox → TrackInfo → Bool → Bool → Option (List ℕ)
    → Option (List ℕ) → List TrackFault → Type 0
WritesOne i movie met trak info follows is_followed old new told =
    let name = named info.position info.track_id in
    (rest : List TrackFault)
    × WritesIf (is_wanted i.choice.track met name) i movie met name info.timescale trak follows is_followed old new rest
    × (told ≡ name_faults info.position info.track_id ++ rest)

-- these tracks are written, one after the other, and their faults are stored. `last` has the track_IDs after them
abbrev pub WritesTracks : Inputs → List TreeBox → List ℕ → List Found → List TrackInfo → Bool → Option (List ℕ)
    → Option (List ℕ)
    → List TrackFault → List ℕ → Type 0
WritesTracks i movie met [] infos follows old new told last = (new ≡ old) × (told ≡ []) × (last ≡ met)
WritesTracks i movie met (f ∷ fs) [] follows old new told last = (new ≡ old) × (told ≡ []) × (last ≡ met)
WritesTracks i movie met (f ∷ fs) (info ∷ infos) follows old new told last =
    (between : Bool) × (mid : Option (List ℕ)) × (one more : List TrackFault)
    × WritesOne i movie met f.after info follows between old mid one
    × WritesTracks i movie (with_name met (named info.position info.track_id)) fs infos between mid new more last
    × (told ≡ one ++ more)

-- faults with this property are stored after those before
abbrev pub Tells : (List TrackFault → Type 0) → List TrackFault → List TrackFault → Type 0
Tells Are before after = (told : List TrackFault) × Are told × (after ≡ before ++ told)

-- what is stored of tracks that are still to come, after those with these track_IDs
pub record IsAhead (trafs : List Traf) (met : List ℕ) (ahead : Ahead) : Type 0 where
  pub known : (q : ℕ) → is_some (get nat_cmp ahead.known q) ≡ is_met q met
  pub left : (q : ℕ) → stored_for ahead.fragments q ≡ (if is_met q met then None else added None (with_id q trafs))

-- the tracks of a movie are written, their faults are stored after those before, and `ahead` is the state after them.
-- `movie` begins with the boxes inside the moov
pub record EntersTracks (i : Inputs) (movie : List TreeBox) (infos : List TrackInfo) (old new : Option (List ℕ))
    (before after : List TrackFault) (ahead : Ahead) : Type 0 where
  pub told : List TrackFault
  pub met : List ℕ
  pub writes : WritesTracks i movie [] (all_in 1 (four_cc_of codes.TRAK) movie) infos false old new told met
  pub told_is : after ≡ before ++ told
  pub ahead_is : IsAhead i.trafs met ahead

-- ---- the other faults

-- there is no track with this track_ID
abbrev pub missing : ℕ → TrackFault
missing q = record { track = Some (names.Id q); fault = faults.Box (errors.Missing (four_cc_of codes.TRAK)) }

abbrev pub is_any : List TrackTraf → Bool
is_any [] = false
is_any (_ ∷ _) = true

-- the track_IDs that trafs have and no track has, each once, from the smallest
pub record AreUnknown (trafs : List Traf) (met : List ℕ) (ids : List ℕ) : Type 0 where
  pub order : IsStrictlySortedBy nat_cmp ids
  pub are : (q : ℕ) → is_member (eq_by_cmp nat_cmp) ids q ≡ (not (is_met q met) && is_any (with_id q trafs))

-- the faults of tracks that are missing: the one that was asked for, or those of the trafs
abbrev pub AreMissing : Option ℕ → List Traf → List ℕ → List TrackFault → Type 0
AreMissing None trafs met told = (ids : List ℕ) × AreUnknown trafs met ids × (told ≡ map missing ids)
AreMissing (Some q) trafs met told = told ≡ (if is_met q met then [] else missing q ∷ [])

-- a file has a `moov` or a `moof`
abbrev pub is_movie : List TreeBox → Bool
is_movie boxes =
    is_some (first_in 0 (four_cc_of codes.MOOV) boxes) || is_some (first_in 0 (four_cc_of codes.MOOF) boxes)

abbrev pub movie_faults : List TreeBox → List TrackFault
movie_faults boxes = if is_movie boxes then [] else record { track = None; fault = faults.NoMovie } ∷ []

abbrev pub box_fault : BoxError → TrackFault
box_fault e = record { track = None; fault = faults.Box e }

-- ---- the file

-- the parts of the movie of a file: the faults of its `trex` boxes, the fragments of each `moof`, the headers of the
-- tracks
pub record AreParts (file : List ℕ) (parts : MovieParts) : Type 0 where
  pub errors : AreFaults file (trexes (boxes_of file)) parts.errors.items
  pub moofs : AreFragments file (boxes_of file) parts.moofs.items
  pub infos : AreInfos file 0 (traks (boxes_of file)) parts.infos.items

-- the trafs of a file with these parts
abbrev pub trafs_by : List ℕ → MovieParts → List Traf
trafs_by file parts = trafs_of file (boxes_of file) parts.moofs.items

abbrev pub inputs_of : List ℕ → Choice → MovieParts → Inputs
inputs_of file choice parts = record { file = file; choice = choice; trafs = trafs_by file parts }

-- The samples of a file are written: a text before the rows, the rows of the tracks, and a text after them. Its faults
-- are stored after those before: of `trex` boxes, of trafs without a track_ID, of tracks, of tracks that are missing,
-- and of a file without a movie.
pub record WritesSamples (choice : Choice) (file : List ℕ) (old new : Option (List ℕ)) (before after : List TrackFault)
    : Type 0 where
  pub parts : MovieParts
  pub are : AreParts file parts
  pub begun : Option (List ℕ)
  pub front : Appends old begun (front_text choice.form)
  pub written : Option (List ℕ)
  pub told : List TrackFault
  pub met : List ℕ
  pub tracks : WritesTracks (inputs_of file choice parts) (movie_in (boxes_of file)) []
      (traks (boxes_of file)) parts.infos.items false begun
      written told met
  pub absent : List TrackFault
  pub are_absent : AreMissing choice.track (trafs_by file parts) met absent
  pub end : Appends written new (end_text choice.form)
  pub faults_are : after ≡ before ++ (map box_fault parts.errors.items ++ (header_faults (trafs_by file parts)
      ++ (told ++ (absent ++ movie_faults (boxes_of file)))))
