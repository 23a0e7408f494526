-- The rows for C of the samples of a track.
use Rattle.std.specs.Prelude.{◌≡◌, ℕ, ◌<◌, ◌≤◌, ◌⊎◌, List, length, drop, slice_get, Result, Ok, Err, None, Some}
use Rattle.std.specs.Prelude.{if◌then◌else◌}
use Rattle.std.specs.declared.option.Option.{Option}
use Rattle.mp4_c.specs.Tracks.{Stops, StopsBy, number_of, status_without_track}
use Rattle.mp4_c.specs.declared.samples.SampleRow.{SampleRow}
use Rattle.mp4_c_boxes.specs.declared.status.TheConstants as statuses
use Rattle.mp4_samples.specs.Disagreements.{Disagrees}
use Rattle.mp4_samples.specs.Samples.{AreConsistent, IsSample, sample_count}
use Rattle.mp4_samples.specs.declared.disagreement.Disagreement.{Disagreement}
use Rattle.mp4_samples.specs.declared.disagreement.Disagreement.TheVariants as kinds
use Rattle.mp4_samples.specs.declared.sample.Sample.{Sample}
use Rattle.mp4_samples.specs.declared.tables.Tables.{Tables}
use Rattle.mp4_movie.specs.Movies.{of_track, samples_of, traks}
use Rattle.mp4_movie.specs.Problems.{Problem}
use Rattle.mp4_movie.specs.Tables.{AreTablesOf}
use Rattle.mp4_movie.specs.declared.sample_boxes.SampleBoxes.{SampleBoxes}
use Rattle.mp4_walk.specs.FileBoxes.{boxes_of}

abbrev pub row_of : Sample → SampleRow
row_of s = record {
  offset = s.offset;
  decode_time = s.start_time;
  rendering_offset = s.rendering_offset;
  size = s.size;
  duration = s.duration;
  description = s.sample_description_index;
  chunk = s.chunk;
  is_sync = if s.is_sync then 1 else 0;
}

-- the status of a disagreement
abbrev pub status_of_disagreement : Disagreement → ℕ
status_of_disagreement (kinds.SampleSizes _ _) = statuses.SAMPLE_SIZES
status_of_disagreement (kinds.FirstChunk _) = statuses.FIRST_CHUNK
status_of_disagreement (kinds.ChunkOrder _) = statuses.CHUNK_ORDER
status_of_disagreement (kinds.ChunkCount _) = statuses.CHUNK_COUNT
status_of_disagreement (kinds.Chunks _ _) = statuses.CHUNKS
status_of_disagreement (kinds.Durations _ _) = statuses.DURATIONS
status_of_disagreement (kinds.SyncSamples _) = statuses.SYNC_SAMPLES
status_of_disagreement (kinds.Offset _ _) = statuses.OFFSET

-- All samples are at the front of the array, in their order, and the places after them are as they were.
pub record ArePut (t : Tables) (old new : List SampleRow) : Type 0 where
  pub rows : (k : ℕ) → k < sample_count t → (s : Sample) × (IsSample t k s × (slice_get new k ≡ Some (row_of s)))
  pub rest : drop (sample_count t) new ≡ drop (sample_count t) old

-- The array is filled with the samples, or it is too short and is as it was.
abbrev pub FillsSamples : ℕ → Tables → List SampleRow → List SampleRow → Type 0
FillsSamples status t old new =
    ((status ≡ statuses.OK) × ((sample_count t ≤ length old) × ArePut t old new))
    ⊎ ((status ≡ statuses.NO_ROOM) × ((length old < sample_count t) × (new ≡ old)))

-- The tables agree, and their samples are copied; or the status is that of a disagreement.
abbrev pub CopiesTables : SampleBoxes → ℕ → List SampleRow → List SampleRow → ℕ → ℕ → Type 0
CopiesTables boxes status old new count_old count_new = (t : Tables) × (AreTablesOf boxes t × (
    (AreConsistent t × ((count_new ≡ sample_count t) × FillsSamples status t old new))
    ⊎ ((d : Disagreement)
    × (Disagrees t d × ((status ≡ status_of_disagreement d) × ((new ≡ old) × (count_new ≡ count_old)))))))

-- The samples of a track are copied, by its tables, if they can be read. A track without sizes and without chunks has
-- no samples.
abbrev pub CopiesAnswer : Result (Option SampleBoxes) Problem
    → ℕ → List SampleRow → List SampleRow → ℕ → ℕ → Type 0
CopiesAnswer (Ok (Some boxes)) status old new count_old count_new =
    CopiesTables boxes status old new count_old count_new
CopiesAnswer (Ok None) status old new count_old count_new =
    (status ≡ statuses.OK) × ((new ≡ old) × (count_new ≡ 0))
CopiesAnswer (Err p) status old new count_old count_new = StopsBy p status old new count_old count_new

abbrev pub CopiesTrack : List ℕ → Option ℕ → ℕ → List SampleRow → List SampleRow → ℕ → ℕ → Type 0
CopiesTrack B None status old new count_old count_new =
    Stops (status_without_track (boxes_of B)) status old new count_old count_new
CopiesTrack B (Some number) status old new count_old count_new =
    CopiesAnswer (of_track (samples_of B) number (traks (boxes_of B))) status old new count_old count_new

-- The samples of the track of a number are copied, if there is such a track; or memory is refused.
abbrev pub CopiesOf : List ℕ → Option ℕ → ℕ → List SampleRow → List SampleRow → ℕ → ℕ → Type 0
CopiesOf B number status old new count_old count_new =
    Stops statuses.OUT_OF_MEMORY status old new count_old count_new
    ⊎ CopiesTrack B number status old new count_old count_new

-- those of the first track with a track_ID
abbrev pub CopiesSamples : List ℕ → ℕ → ℕ → List SampleRow → List SampleRow → ℕ → ℕ → Type 0
CopiesSamples B id status old new count_old count_new =
    CopiesOf B (number_of B id) status old new count_old count_new
