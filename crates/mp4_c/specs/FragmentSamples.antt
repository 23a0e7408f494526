-- The rows for C of the samples of the fragments of a track.
use Rattle.std.specs.Prelude.{◌≡◌, ℕ, ◌-◌, ◌<◌, ◌^◌, ◌==◌, ◌⊎◌, Bool, true, List, [], ◌∷◌, ◌++◌, length, min}
use Rattle.std.specs.Prelude.{slice_get, sum_by, Result, Ok, Err, None, Some, if◌then◌else◌}
use Rattle.std.specs.declared.option.Option.{Option}
use Rattle.mp4_c_boxes.specs.Calls.{Fills}
use Rattle.mp4_c_boxes.specs.declared.status.TheConstants as statuses
use Rattle.mp4_samples.specs.FragmentGives.{sample_total}
use Rattle.mp4_samples.specs.Fragments.{Faults, IsFragmentSample, sample_time}
use Rattle.mp4_samples.specs.declared.fragment.Fragment.{Fragment}
use Rattle.mp4_samples.specs.declared.fragment_fault.FragmentFault.{FragmentFault}
use Rattle.mp4_samples.specs.declared.fragment_fault.FragmentFault.TheVariants as faults
use Rattle.mp4_samples.specs.declared.sample.Sample.{Sample}
use Rattle.mp4_tables.specs.declared.trun.TrunBox.{TrunBox}
use Rattle.mp4_movie.specs.Ends.{time_end_of}
use Rattle.mp4_movie.specs.Fragments.{AreFragments, IsFragmentOf, piece_of}
use Rattle.mp4_movie.specs.Movies.{of_track, traks}
use Rattle.mp4_movie.specs.Problems.{Problem}
use Rattle.mp4_movie.specs.declared.error.BoxError.{BoxError}
use Rattle.mp4_movie.specs.declared.error.BoxError.TheVariants as errors
use Rattle.mp4_movie.specs.declared.moof.MoofFragments.{MoofFragments}
use Rattle.mp4_movie.specs.declared.track_fragment.TrackFragment.{TrackFragment}
use Rattle.mp4_c.specs.Samples.{row_of}
use Rattle.mp4_c.specs.Tracks.{Stops, StopsBy, number_of, status_of_box_error, status_without_track}
use Rattle.mp4_c.specs.declared.samples.SampleRow.{SampleRow}
use Rattle.mp4_walk.specs.FileBoxes.{boxes_of}

-- the status of a fault of a fragment
abbrev pub status_of_fault : FragmentFault → ℕ
status_of_fault (faults.Runs _ _) = statuses.CHUNK_COUNT
status_of_fault (faults.Offset _ _) = statuses.OFFSET
status_of_fault (faults.Time _ _) = statuses.DURATIONS

-- the number of samples in runs
abbrev pub samples_of : List TrunBox → ℕ
samples_of runs = sum_by (λ (t : TrunBox). t.sample_count) runs

abbrev pub samples_in : List TrackFragment → ℕ
samples_in fs = sum_by (λ (x : TrackFragment). samples_of x.runs.items) fs

-- the time at which the last sample of a fragment ends
abbrev pub end_time : Fragment → ℕ
end_time f = sample_time f (length f.runs.now) 0

-- The row at k is that of sample k.
abbrev pub IsRow : Fragment → List SampleRow → ℕ → Type 0
IsRow f rows k = (s : Sample) × (IsFragmentSample f k s × (slice_get rows k ≡ Some (row_of s)))

-- The rows are those of the samples of a fragment.
pub record AreRowsOf (f : Fragment) (rows : List SampleRow) : Type 0 where
  pub count : length rows ≡ sample_total f
  pub each : (k : ℕ) → k < length rows → IsRow f rows k

-- The rows are those of the samples of these fragments, one after the other. The first sample of a fragment without a
-- tfdt is decoded when the last sample of the fragment before it ends, or at `time` if there is no fragment before it.
abbrev pub AreRows : ℕ → List TrackFragment → List SampleRow → Type 0
AreRows time [] rows = rows ≡ []
AreRows time (x ∷ xs) rows =
    (f : Fragment) × (own : List SampleRow) × (rest : List SampleRow)
    × IsFragmentOf (piece_of x) time f
    × AreRowsOf f own
    × AreRows (end_time f) xs rest × (rows ≡ own ++ rest)

-- A sample of the fragment has a fault, whose status this is.
abbrev pub HasFault : Fragment → ℕ → Type 0
HasFault f status = (k : ℕ) × (e : FragmentFault) × (Faults f k e × (status ≡ status_of_fault e))

-- A sample of one of these fragments has a fault, whose status this is; the times are as in AreRows.
abbrev pub StopsIn : ℕ → List TrackFragment → ℕ → Type 0
StopsIn time [] status = ⊥
StopsIn time (x ∷ xs) status =
    (f : Fragment) × (IsFragmentOf (piece_of x) time f × (HasFault f status ⊎ StopsIn (end_time f) xs status))

-- The array is filled with the rows of the samples of these fragments, which begin at a time. Or the array is too
-- short, and is as it was. Or a sample has a fault or memory is refused, and the array and the number are as they were.
abbrev pub GivesRows : ℕ → List TrackFragment → ℕ → List SampleRow → List SampleRow → ℕ → ℕ → Type 0
GivesRows start fs status old new count_old count_new =
    ((length old < samples_in fs)
    × ((status ≡ statuses.NO_ROOM) × ((new ≡ old) × (count_new ≡ min (samples_in fs) (2 ^ 64 - 1)))))
    ⊎ (((rows : List SampleRow) × (AreRows start fs rows × ((count_new ≡ length rows) × Fills status rows old new)))
    ⊎ (((status ≡ statuses.OUT_OF_MEMORY) ⊎ StopsIn start fs status) × ((new ≡ old) × (count_new ≡ count_old))))

-- the answers for all trafs, in the order of the file
abbrev pub answers_of : List MoofFragments → List (Result TrackFragment BoxError)
answers_of [] = []
answers_of (m ∷ ms) = m.fragments.items ++ answers_of ms

-- the fragments of the track with this track_ID
abbrev pub own_of : ℕ → List (Result TrackFragment BoxError) → List TrackFragment
own_of id [] = []
own_of id (Ok x ∷ rs) = if x.header.track_id == id then x ∷ own_of id rs else own_of id rs
own_of id (Err _ ∷ rs) = own_of id rs

-- The error of a traf concerns this track. If the header of the traf has another track_ID, defaults or a base that the
-- traf lacks don't. The boxes of each traf have to be readable.
abbrev pub concerns : ℕ → BoxError → Bool
concerns id (errors.NoDefaults track_id) = track_id == id
concerns id (errors.NoBase _ track_id) = track_id == id
concerns id (errors.Missing _) = true
concerns id (errors.Fault _ _ _) = true

-- the first error that concerns this track
abbrev pub error_in : ℕ → List (Result TrackFragment BoxError) → Option BoxError
error_in id [] = None
error_in id (Ok _ ∷ rs) = error_in id rs
error_in id (Err e ∷ rs) = if concerns id e then Some e else error_in id rs

-- No error concerns this track, and its fragments are appended.
pub record AppendsOwn (id : ℕ) (answers : List (Result TrackFragment BoxError)) (old new : List TrackFragment)
    : Type 0 where
  pub no_error : error_in id answers ≡ None
  pub own : new ≡ old ++ own_of id answers

-- Memory is refused, or this is the status of the first error that concerns the track.
abbrev pub StopsAt : ℕ → List (Result TrackFragment BoxError) → ℕ → Type 0
StopsAt id answers status =
    (status ≡ statuses.OUT_OF_MEMORY)
    ⊎ ((e : BoxError) × ((error_in id answers ≡ Some e) × (status ≡ status_of_box_error e)))

-- The samples of these fragments are copied, unless there is an error.
abbrev pub CopiesOwn : Option BoxError → List TrackFragment
    → ℕ → ℕ → List SampleRow → List SampleRow → ℕ → ℕ → Type 0
CopiesOwn None fs start status old new count_old count_new = GivesRows start fs status old new count_old count_new
CopiesOwn (Some e) fs start status old new count_old count_new =
    Stops (status_of_box_error e) status old new count_old count_new

-- The samples of the fragments of the track with this track_ID are copied. They begin where the samples of its tables
-- end.
abbrev pub CopiesFrom : List ℕ → ℕ → Result ℕ Problem
    → ℕ → List SampleRow → List SampleRow → ℕ → ℕ → Type 0
CopiesFrom B id (Ok start) status old new count_old count_new =
    (moofs : List MoofFragments) × (AreFragments B (boxes_of B) moofs
    × CopiesOwn (error_in id (answers_of moofs)) (own_of id (answers_of moofs)) start
    status old new count_old count_new)
CopiesFrom B id (Err p) status old new count_old count_new = StopsBy p status old new count_old count_new

abbrev pub CopiesTrackFragments : List ℕ → ℕ → Option ℕ
    → ℕ → List SampleRow → List SampleRow → ℕ → ℕ → Type 0
CopiesTrackFragments B id None status old new count_old count_new =
    Stops (status_without_track (boxes_of B)) status old new count_old count_new
CopiesTrackFragments B id (Some number) status old new count_old count_new =
    CopiesFrom B id (of_track (time_end_of B) number (traks (boxes_of B))) status old new count_old count_new

-- The samples of all fragments of the track of a number and a track_ID are copied, if there is such a track; or memory
-- is refused.
abbrev pub CopiesFragmentsOf : List ℕ → ℕ → Option ℕ → ℕ → List SampleRow → List SampleRow → ℕ → ℕ → Type 0
CopiesFragmentsOf B id number status old new count_old count_new =
    Stops statuses.OUT_OF_MEMORY status old new count_old count_new
    ⊎ CopiesTrackFragments B id number status old new count_old count_new

-- those of the first track with a track_ID
abbrev pub CopiesFragments : List ℕ → ℕ → ℕ → List SampleRow → List SampleRow → ℕ → ℕ → Type 0
CopiesFragments B id status old new count_old count_new =
    CopiesFragmentsOf B id (number_of B id) status old new count_old count_new
