-- The time of the media of a track that is presented at 0, by its edit list (ISO/IEC 14496-12, 8.6.6).
use Rattle.std.specs.Prelude.{ℕ, ℤ, pos, ◌≡◌, ◌+◌, ◌-ℤ◌, ◌*◌, ◌/◌, ◌<◌, ◌⊎◌, true, false, List, [], length, get_or}
use Rattle.std.specs.Prelude.{map, None, Some, Ok, Err, Result}
use Rattle.std.specs.declared.option.Option.{Option}
use Rattle.mp4_flat.specs.Boxes.{reads_mvhd}
use Rattle.mp4_frame.specs.FourCC.{four_cc_of}
use Rattle.mp4_frame.specs.declared.codes.TheConstants as codes
use Rattle.mp4_movie.specs.Levels.{Found, after_of, first_in, movie_in}
use Rattle.mp4_movie.specs.Movies.{timescale, traks}
use Rattle.mp4_movie.specs.Problems.{Problem, NoBox, ◌>>=◌}
use Rattle.mp4_movie.specs.Reads.{some_of, value_at}
use Rattle.mp4_movie.specs.declared.error.BoxError.{BoxError}
use Rattle.mp4_samples.specs.Edits.{durations_before, edit_in, is_empty_edit}
use Rattle.mp4_tables.specs.Boxes.{reads_elst}
use Rattle.mp4_tables.specs.ElstEntry.{is_long}
use Rattle.mp4_tables.specs.declared.elst.ElstBox.{ElstBox}
use Rattle.mp4_walk.specs.FileBoxes.{boxes_of}
use Rattle.mp4_walk.specs.declared.tree_box.TreeBox.{TreeBox}
use Rattle.mp4_remux.specs.Told.{at_track}
use Rattle.mp4_remux.specs.Whole.{track_count}
use Rattle.mp4_remux.specs.declared.parts.part.Part.{Part}

abbrev pub box_in : Option Found → Option TreeBox
box_in None = None
box_in (Some f) = Some f.box

-- the edit list of a track: the first `elst` in its first `edts`. `trak` begins with the boxes inside its `trak`
abbrev pub list_box : List TreeBox → Option TreeBox
list_box trak = box_in (first_in 3 (four_cc_of codes.ELST) (after_of (first_in 2 (four_cc_of codes.EDTS) trak)))

abbrev pub list_boxes_in : List Found → List (Option TreeBox)
list_boxes_in fs = map (λ f. list_box f.after) fs

-- those of all tracks of a file with these boxes
abbrev pub list_boxes : List TreeBox → List (Option TreeBox)
list_boxes boxes = list_boxes_in (traks boxes)

-- what an edit list says, if there is one
abbrev pub list_at : List ℕ → Option TreeBox → Result (Option ElstBox) Problem
list_at file None = Ok None
list_at file (Some x) = some_of (value_at reads_elst codes.ELST file x)

abbrev pub edit_list : List ℕ → List TreeBox → Result (Option ElstBox) Problem
edit_list file trak = list_at file (list_box trak)

-- the header of the movie (8.2.2)
abbrev pub header_box : List TreeBox → Option TreeBox
header_box boxes = box_in (first_in 1 (four_cc_of codes.MVHD) (movie_in boxes))

-- the timescale in a header, if there is one
abbrev pub scale_at : List ℕ → Option TreeBox → Result ℕ Problem
scale_at file None = Err (NoBox (four_cc_of codes.MVHD))
scale_at file (Some x) = value_at reads_mvhd codes.MVHD file x >>= λ v. Ok v.timescale

-- the timescale of the movie, which the durations of edits have
abbrev pub movie_scale : List ℕ → Result ℕ Problem
movie_scale file = scale_at file (header_box (boxes_of file))

-- this many ticks of the movie, in those of the media, rounded down
abbrev pub late_by : ℕ → ℕ → ℕ → ℕ
late_by delay movie media = delay * media / movie

-- the list presents the media by its last edit, at rate 1, after empty edits, and so presents the time o at 0
pub record IsOriginBy (b : ElstBox) (movie media : ℕ) (o : ℤ) : Type 0 where
  pub last : ℕ
  pub counted : length b.entries ≡ last + 1
  pub empty : (k : ℕ) → k < last → is_empty_edit (is_long b.version) (edit_in b.entries k) ≡ true
  pub plays : is_empty_edit (is_long b.version) (edit_in b.entries last) ≡ false
  pub rate : (edit_in b.entries last).media_rate ≡ 1
  pub fraction : (edit_in b.entries last).media_rate_fraction ≡ 0
  pub origin : o ≡ pos (edit_in b.entries last).media_time
      -ℤ pos (late_by (durations_before b.entries last) movie media)

-- without an edit list, and with an empty one, the media begins at 0
abbrev pub IsOriginIn : Option ElstBox → ℕ → ℕ → ℤ → Type 0
IsOriginIn None movie media o = o ≡ pos 0
IsOriginIn (Some b) movie media o = ((b.entries ≡ []) × (o ≡ pos 0)) ⊎ IsOriginBy b movie media o

-- A track whose edit list is this box of the file B, if it has one, presents the time o of its media at 0. `movie` is
-- the timescale of the movie, and `media` is what was read of that of the track
pub record PresentsAt (B : List ℕ) (x : Option TreeBox) (movie : ℕ) (media : Result ℕ BoxError) (o : ℤ) : Type 0 where
  pub list : Option ElstBox
  pub ticks : ℕ
  pub is_list : list_at B x ≡ Ok list
  pub is_media : media ≡ Ok ticks
  pub is : IsOriginIn list movie ticks o

-- track n of the file B presents the time o of its media at 0
pub record IsOrigin (B : List ℕ) (n : ℕ) (o : ℤ) : Type 0 where
  pub list : Option ElstBox
  pub movie : ℕ
  pub media : ℕ
  pub is_list : at_track edit_list B n ≡ Ok list
  pub is_movie : movie_scale B ≡ Ok movie
  pub is_media : at_track timescale B n ≡ Ok media
  pub is : IsOriginIn list movie media o

-- the origins of the part p are those of the tracks of the file B
abbrev pub HasOrigins : Part → List ℕ → Type 0
HasOrigins p B = (n : ℕ) → n < track_count B → IsOrigin B n (get_or p.origins.items n (pos 0))
