-- The statuses for C of a track and of what can't be read of it.
use Rattle.std.specs.Prelude.{◌≡◌, ℕ, List, None, Some}
use Rattle.std.specs.declared.option.Option.{Option}
use Rattle.mp4_c_boxes.specs.Status.{status_of}
use Rattle.mp4_c_boxes.specs.declared.status.TheConstants as statuses
use Rattle.mp4_frame.specs.FourCC.{four_cc_of}
use Rattle.mp4_frame.specs.declared.codes.TheConstants as codes
use Rattle.mp4_movie.specs.Levels.{Found, first_in}
use Rattle.mp4_movie.specs.Movies.{first_with, traks}
use Rattle.mp4_movie.specs.Problems.{Problem, IsErrorOf}
use Rattle.mp4_movie.specs.declared.error.BoxError.{BoxError}
use Rattle.mp4_movie.specs.declared.error.BoxError.TheVariants as errors
use Rattle.mp4_walk.specs.FileBoxes.{boxes_of}
use Rattle.mp4_walk.specs.declared.tree_box.TreeBox.{TreeBox}

-- the status of an error of a movie
abbrev pub status_of_box_error : BoxError → ℕ
status_of_box_error (errors.Missing _) = statuses.BOX_NOT_FOUND
status_of_box_error (errors.Fault _ _ e) = status_of e
status_of_box_error (errors.NoDefaults _) = statuses.BOX_NOT_FOUND
status_of_box_error (errors.NoBase _ _) = statuses.OFFSET

-- the status is that of a problem of the file
abbrev pub ShowsProblem : Problem → ℕ → Type 0
ShowsProblem p status = (e : BoxError) × (IsErrorOf e p × (status ≡ status_of_box_error e))

abbrev pub status_by_movie : Option Found → ℕ
status_by_movie None = statuses.BOX_NOT_FOUND
status_by_movie (Some _) = statuses.NO_TRACK

-- the status if no track has the track_ID. If the file has no moov, the moov is missing
abbrev pub status_without_track : List TreeBox → ℕ
status_without_track boxes = status_by_movie (first_in 0 (four_cc_of codes.MOOV) boxes)

-- the number of the first track of a file that has this track_ID
abbrev pub number_of : List ℕ → ℕ → Option ℕ
number_of B id = first_with B id 0 (traks (boxes_of B))

-- The call has this status, and the array and the number are as they were.
abbrev pub Stops : {R : Type 0} → ℕ → ℕ → List R → List R → ℕ → ℕ → Type 0
Stops wanted status old new count_old count_new = (status ≡ wanted) × ((new ≡ old) × (count_new ≡ count_old))

-- The status is that of a problem, and the array and the number are as they were.
abbrev pub StopsBy : {R : Type 0} → Problem → ℕ → List R → List R → ℕ → ℕ → Type 0
StopsBy p status old new count_old count_new =
    ShowsProblem p status × ((new ≡ old) × (count_new ≡ count_old))
