-- The faults of the fragments of a file, in the order of the file. FragmentValues and Outside have the rules.
use Rattle.std.specs.Prelude.{◌≡◌, ℕ, ◌==◌, ◌&&◌, ◌||◌, not, Bool, nat_lt, List, [], ◌∷◌, ◌++◌}
use Rattle.std.specs.Prelude.{is_some, option_map, option_and_then, None, Some, if◌then◌else◌}
use Rattle.std.specs.BTreeMap.{get}
use Rattle.std.specs.Ordering.{nat_cmp}
use Rattle.std.specs.declared.option.Option.{Option}
use Rattle.mp4_check.specs.FaultValues.{Value, fault_at}
use Rattle.mp4_check.specs.FragmentValues.{Places, TrafValue, fragment_header, traf_values}
use Rattle.mp4_check.specs.Outside.{runs_outside}
use Rattle.mp4_content.specs.Paths.{in_fragment, next}
use Rattle.mp4_check.specs.TrackFaults.{IsMet, first_header, is_track_away}
use Rattle.mp4_check.specs.declared.extent.Extent.{Extent}
use Rattle.mp4_check.specs.declared.fault.What.{What}
use Rattle.mp4_check.specs.declared.fault.What.TheVariants as what
use Rattle.mp4_check.specs.declared.fragments.FileFacts.{FileFacts}
use Rattle.mp4_check.specs.declared.fragments.Going.{Going}
use Rattle.mp4_check.specs.declared.trafs.FragmentHeader.{FragmentHeader}
use Rattle.mp4_flat.specs.declared.trex.TrexBox.{TrexBox}
use Rattle.mp4_frame.specs.FourCC.{four_cc_of}
use Rattle.mp4_frame.specs.declared.codes.TheConstants as codes
use Rattle.mp4_movie.specs.Defaults.{defaults_in, trexes}
use Rattle.mp4_movie.specs.Levels.{Found, all_in, first_in}
use Rattle.mp4_movie.specs.Movies.{traks}
use Rattle.mp4_movie.specs.declared.level.BoxLocation.{BoxLocation}
use Rattle.mp4_walk.specs.Tops.{is_whole}
use Rattle.mp4_walk.specs.declared.tree_box.TreeBox.{TreeBox}

-- what the rules need of the rest of the file: its bytes and its boxes, the media data and its length
pub record File : Type 0 where
  pub bytes : List ℕ
  pub boxes : List TreeBox
  pub media : List Extent
  pub length : ℕ

-- a box and the boxes after it
abbrev pub found_at : BoxLocation → Found
found_at p = record { box = p.found; after = p.after.now }

abbrev pub has_moov : File → Bool
has_moov f = is_some (first_in 0 (four_cc_of codes.MOOV) f.boxes)

abbrev pub defaults_of : File → ℕ → Option TrexBox
defaults_of f id = defaults_in f.bytes id (trexes f.boxes)

-- the times of earlier fragments with their track_IDs, the last one first
abbrev pub Times : Type 0
Times = List (ℕ × ℕ)

abbrev pub time_of : ℕ → Times → Option ℕ
time_of id [] = None
time_of id ((track, time) ∷ ts) = if track == id then Some time else time_of id ts

-- the runs of a fragment are in this file, at known places: its offsets don't count from the beginning of a file from
-- which this segment was cut, and the media data of its track are in no other file
abbrev pub is_here : File → TrafValue → Bool
is_here f t = (has_moov f || not t.is_absolute) && not (is_track_away f.bytes t.track_id (traks f.boxes))

abbrev pub runs_what : File → TrafValue → Option Places → Option What
runs_what f t None = None
runs_what f t (Some p) =
    if is_here f t then option_map what.RunsOutside (runs_outside f.media f.length p.runs) else None

-- the track of a fragment is one of the movie (ISO/IEC 14496-12, 8.8.7.3)
abbrev pub header_what : File → FragmentHeader → Option What
header_what f h =
    if has_moov f && not (is_some (first_header f.bytes h.track_id (traks f.boxes))) then Some (what.NoTrack
    h.track_id) else None

abbrev pub back_from : ℕ → ℕ → Option What
back_from time earlier = if nat_lt time earlier then Some (what.TimeBack time earlier) else None

-- the times of the fragments of a track don't decrease (8.8.12.1)
abbrev pub time_what : Times → ℕ → Option ℕ → Option What
time_what times id None = None
time_what times id (Some time) = option_and_then (back_from time) (time_of id times)

abbrev pub position_of : Option Found → ℕ
position_of None = 0
position_of (Some f) = f.box.position

-- the fault of the first box at these codes in a traf
abbrev pub in_that : ℕ → ℕ → List ℕ → ℕ → Option What → List Value
in_that m n these position w = fault_at position (in_fragment m n these) w

abbrev pub runs_faults : File → ℕ → ℕ → ℕ → Option TrafValue → List Value
runs_faults f m n position None = []
runs_faults f m n position (Some t) = in_that m n [] position (runs_what f t t.places)

abbrev pub header_faults : File → ℕ → ℕ → Option FragmentHeader → List Value
header_faults f m n None = []
header_faults f m n (Some h) = in_that m n (codes.TFHD ∷ []) h.position (header_what f h)

abbrev pub time_faults : Times → ℕ → ℕ → List TreeBox → Option TrafValue → List Value
time_faults times m n boxes None = []
time_faults times m n boxes (Some t) =
    in_that m n (codes.TFDT ∷ []) (position_of (first_in 2 (four_cc_of codes.TFDT) boxes))
    (time_what times t.track_id t.time)

-- the values of a traf, if it is whole
abbrev pub values_in : File → ℕ → Option ℕ → Found → Option TrafValue
values_in f moof end x =
    if is_whole x.box.state then traf_values f.bytes (defaults_of f) moof end x.after else None

-- the faults of traf number n of moof number m: its runs, its header and its time
abbrev pub traf_faults : File → Times → ℕ → ℕ → Found → Option TrafValue → List Value
traf_faults f times m n x t =
    runs_faults f m n x.box.position t
    ++ (header_faults f m n (fragment_header f.bytes x.after) ++ time_faults times m n x.after t)

abbrev pub places_of : Option TrafValue → Option Places
places_of t = option_and_then (λ (v : TrafValue). v.places) t

-- the end of the data of a traf, if it is known
abbrev pub next_end : Option TrafValue → Option ℕ
next_end t = option_and_then (λ (p : Places). p.end) (places_of t)

abbrev pub with_time : Times → ℕ → Option ℕ → Times
with_time times id None = times
with_time times id (Some time) = (id, time) ∷ times

abbrev pub next_times : Times → Option TrafValue → Times
next_times times None = times
next_times times (Some t) = with_time times t.track_id t.time

-- the times after these trafs of the moof at a position, if the data before them end there
abbrev pub times_after : File → ℕ → Option ℕ → Times → List Found → Times
times_after f moof end times [] = times
times_after f moof end times (x ∷ xs) =
    let t = values_in f moof end x in times_after f moof (next_end t) (next_times times t) xs

-- the faults of these trafs of moof number m at a position, of which the first has number n
abbrev pub faults_of_trafs : File → ℕ → ℕ → Option ℕ → Times → ℕ → List Found → List Value
faults_of_trafs f m moof end times n [] = []
faults_of_trafs f m moof end times n (x ∷ xs) =
    let t = values_in f moof end x in
    traf_faults f times m n x t ++ faults_of_trafs f m moof (next_end t) (next_times times t) (next n) xs

abbrev pub trafs_of : Found → List Found
trafs_of m = all_in 1 (four_cc_of codes.TRAF) m.after

-- the faults of these moofs, of which the first has number m. The data of the first traf begin at its moof (8.8.7.1)
abbrev pub faults_of_moofs : File → ℕ → Times → List Found → List Value
faults_of_moofs f m times [] = []
faults_of_moofs f m times (x ∷ xs) =
    let position = x.box.position in
    faults_of_trafs f m position (Some position) times 0 (trafs_of x)
    ++ faults_of_moofs f (next m) (times_after f position (Some position) times (trafs_of x)) xs

-- the faults of all fragments
abbrev pub fragment_faults : File → List Value
fragment_faults f = faults_of_moofs f 0 [] (all_in 0 (four_cc_of codes.MOOF) f.boxes)

-- what is stored of the rest of the file
pub record AreFacts (f : File) (facts : FileFacts) : Type 0 where
  pub media_is : facts.media.extents.items ≡ f.media
  pub length_is : facts.media.length ≡ f.length
  pub moov_is : facts.has_moov ≡ has_moov f
  pub tracks_are : IsMet f.bytes (traks f.boxes) facts.tracks
  pub defaults_are : (id : ℕ) → get nat_cmp facts.defaults id ≡ defaults_of f id

-- what is stored after these times, if the data before the next traf end there
pub record IsGoing (times : Times) (end : Option ℕ) (going : Going) : Type 0 where
  pub end_is : going.end ≡ end
  pub times_are : (id : ℕ) → get nat_cmp going.times id ≡ time_of id times
