-- The rows of the moofs of a file: the bytes of each with its media data, and the times of its first fragment (ISO/IEC
-- 14496-12, 8.8).
use Rattle.std.specs.Prelude.{◌≡◌, ℕ, ◌+◌, ◌-◌, ◌^◌, ◌==◌, Bool, true, false, min, sum_by, unwrap_or, slice_index_or}
use Rattle.std.specs.Prelude.{List, [], ◌∷◌, ◌++◌, length, map, flat_map, option_map, Result, Ok, Err, None, Some}
use Rattle.std.specs.Prelude.{if◌then◌else◌}
use Rattle.std.specs.Io.KnownBytes.{Appends}
use Rattle.std.specs.List.{range_with_len}
use Rattle.std.specs.Option.{option_or}
use Rattle.std.specs.declared.option.Option.{Option}
use Rattle.mp4_flat.specs.declared.tfdt.TfdtBox.{TfdtBox}
use Rattle.mp4_frame.specs.FourCC.{four_cc_of}
use Rattle.mp4_frame.specs.declared.codes.TheConstants as codes
use Rattle.mp4_movie.specs.Ends.{end_by}
use Rattle.mp4_movie.specs.Levels.{Found, all_in, first_in}
use Rattle.mp4_movie.specs.Movies.{has_id, samples_of, timescale, traks}
use Rattle.mp4_movie.specs.Problems.{Problem}
use Rattle.mp4_movie.specs.declared.error.BoxError.{BoxError}
use Rattle.mp4_movie.specs.declared.moof.MoofFragments.{MoofFragments}
use Rattle.mp4_movie.specs.declared.sample_boxes.SampleBoxes.{SampleBoxes}
use Rattle.mp4_movie.specs.declared.track_fragment.TrackFragment.{TrackFragment}
use Rattle.mp4_tables.specs.declared.trun.TrunBox.{TrunBox}
use Rattle.mp4_walk.specs.FileBoxes.{boxes_of}
use Rattle.mp4_inspect_samples.specs.Rows.{end_text}
use Rattle.mp4_inspect_samples.specs.Samples.{AreParts, box_fault, movie_faults}
use Rattle.mp4_inspect_samples.specs.SegmentText.{names_text, segment_text}
use Rattle.mp4_inspect_samples.specs.Trafs.{unknown_fault}
use Rattle.mp4_inspect_samples.specs.declared.choice.Choice.{Choice}
use Rattle.mp4_inspect_samples.specs.declared.fault.TrackFault.{TrackFault}
use Rattle.mp4_inspect_samples.specs.declared.row_text.Form.{Form}
use Rattle.mp4_inspect_samples.specs.declared.samples_of_file.MovieParts.{MovieParts}
use Rattle.mp4_inspect_samples.specs.declared.segment_text.Segment.{Segment}
use Rattle.mp4_inspect_samples.specs.declared.track_times.TrackTime.{TrackTime}

-- ---- the bytes

-- the end of the last of these boxes, or `end` if there is none
abbrev pub last_end : ℕ → List Found → ℕ
last_end end [] = end
last_end end (f ∷ fs) = last_end (f.box.position + f.box.length) fs

-- the end of the bytes of a moof: the position of the next moof, or the end of the last mdat after it, or of the moof
-- itself if there is no mdat
abbrev pub end_before : Option Found → Found → ℕ
end_before (Some next) moof = next.box.position
end_before None moof =
    last_end (moof.box.position + moof.box.length) (all_in 0 (four_cc_of codes.MDAT) moof.after)

-- the number of these bytes in a file of this length
abbrev pub segment_size : ℕ → Found → ℕ
segment_size length moof =
    min (end_before (first_in 0 (four_cc_of codes.MOOF) moof.after) moof) length - moof.box.position

-- ---- the duration of a fragment

-- the duration of the samples for which a run lists none: the header states it, or the defaults of the track (8.8.3,
-- 8.8.7)
abbrev pub default_duration : TrackFragment → ℕ
default_duration x = unwrap_or x.header.default_sample_duration x.defaults.default_sample_duration

-- the duration of sample j of a run (8.8.8)
abbrev pub duration_in : ℕ → TrunBox → ℕ → ℕ
duration_in default t j = slice_index_or t.sample_durations j default

-- the sum of the durations of the first j samples of a run
unfoldable pub duration_before : ℕ → TrunBox → ℕ → ℕ
duration_before default t j = sum_by (duration_in default t) (range_with_len 0 j)

-- the duration of runs
abbrev pub runs_duration : ℕ → List TrunBox → ℕ
runs_duration default runs = sum_by (λ (t : TrunBox). duration_before default t t.sample_count) runs

-- the duration of a fragment. 2^64 - 1 stands for all longer ones
abbrev pub duration_of : TrackFragment → ℕ
duration_of x = min (runs_duration (default_duration x) x.runs.items) (2 ^ 64 - 1)

-- ---- the times of tracks

-- the start of a fragment: its tfdt states it (8.8.12), or it is the end of the samples of its track before it
abbrev pub start_by : Option TfdtBox → Option ℕ → Option ℕ
start_by None end = end
start_by (Some t) end = Some t.base_media_decode_time

-- the end of the samples of a track after this fragment, if those before it end at `end`
abbrev pub end_after : TrackFragment → Option ℕ → Option ℕ
end_after x end = option_map (λ (start : ℕ). min (start + duration_of x) (2 ^ 64 - 1)) (start_by x.time end)

-- the times of the track with the track_ID q after a fragment, and after several
abbrev pub time_after : ℕ → TrackTime → TrackFragment → TrackTime
time_after q t x =
    if x.header.track_id == q then record { timescale = t.timescale; end = end_after x t.end } else t

abbrev pub time_at : ℕ → TrackTime → List TrackFragment → TrackTime
time_at q t [] = t
time_at q t (x ∷ xs) = time_at q (time_after q t x) xs

abbrev pub known : {A : Type 0} → Result A Problem → Option A
known (Ok v) = Some v
known (Err _) = None

-- the end of the samples of the tables of a track (8.6.1.2), if these can be read
abbrev pub end_known : Result (Option SampleBoxes) Problem → Option ℕ
end_known (Ok tables) = Some (end_by tables)
end_known (Err _) = None

-- the times of a track before its fragments: the timescale of its media, and the end of the samples of its tables
abbrev pub time_in : List ℕ → Found → TrackTime
time_in file f = record { timescale = known (timescale file f.after); end = end_known (samples_of file f.after) }

abbrev pub time_if : List ℕ → ℕ → Found → Option TrackTime
time_if file q f = if has_id file q f.after then Some (time_in file f) else None

-- those of the first of these tracks that has the track_ID q
abbrev pub time_with : List ℕ → ℕ → List Found → Option TrackTime
time_with file q [] = None
time_with file q (f ∷ fs) = option_or (time_if file q f) (time_with file q fs)

-- nothing is known of the times of a track that the movie does not have
abbrev pub time_or : Option TrackTime → TrackTime
time_or None = record { timescale = None; end = None }
time_or (Some t) = t

-- ---- the rows

-- the fragments among the answers for the trafs of a moof, and the first traf if it is one
abbrev pub fragments_in : List (Result TrackFragment BoxError) → List TrackFragment
fragments_in [] = []
fragments_in (Ok x ∷ answers) = x ∷ fragments_in answers
fragments_in (Err _ ∷ answers) = fragments_in answers

abbrev pub first_of : List (Result TrackFragment BoxError) → Option TrackFragment
first_of [] = None
first_of (Ok x ∷ answers) = Some x
first_of (Err _ ∷ answers) = None

-- the row of a moof with this first fragment, by the times of the tracks before it
abbrev pub segment_by : ℕ → ℕ → ℕ → Bool → (ℕ → TrackTime) → Option TrackFragment → Segment
segment_by number offset size seconds times None = record {
  number = number;
  offset = offset;
  size = size;
  track = None;
  start = None;
  duration = None;
  clock = record { timescale = None; seconds = seconds };
}
segment_by number offset size seconds times (Some x) = record {
  number = number;
  offset = offset;
  size = size;
  track = Some x.header.track_id;
  start = start_by x.time (times x.header.track_id).end;
  duration = Some (duration_of x);
  clock = record { timescale = (times x.header.track_id).timescale; seconds = seconds };
}

-- the number of the bytes of the file, and whether times are in seconds
pub record SegmentRule : Type 0 where
  pub form : Form
  pub seconds : Bool
  pub length : ℕ

abbrev pub segment_at : SegmentRule → (ℕ → TrackTime) → ℕ → Found → MoofFragments → Segment
segment_at rule times number f m =
    segment_by number f.box.position (segment_size rule.length f) rule.seconds times (first_of m.fragments.items)

-- The rows of moofs, of which n come before them, with the fragments `seen`. `times` are those of the tracks before all
-- fragments.
abbrev pub segments_text : SegmentRule → (ℕ → TrackTime) → Bool → ℕ → List TrackFragment → List Found
    → List MoofFragments → List ℕ
segments_text rule times follows n seen [] ms = []
segments_text rule times follows n seen (f ∷ fs) [] = []
segments_text rule times follows n seen (f ∷ fs) (m ∷ ms) =
    segment_text rule.form follows (segment_at rule (λ (q : ℕ). time_at q (times q) seen) (n + 1) f m)
    ++ segments_text rule times true (n + 1) (seen ++ fragments_in m.fragments.items) fs ms

-- the faults of the trafs of a moof that are no fragments, and those of moofs
abbrev pub answer_faults : ℕ → List (Result TrackFragment BoxError) → List TrackFault
answer_faults moof answers = flat_map (unknown_fault moof None) answers

abbrev pub moof_faults : List Found → List MoofFragments → List TrackFault
moof_faults [] ms = []
moof_faults (f ∷ fs) [] = []
moof_faults (f ∷ fs) (m ∷ ms) = answer_faults m.position m.fragments.items ++ moof_faults fs ms

-- ---- the file

abbrev pub moofs_of : List ℕ → List Found
moofs_of file = all_in 0 (four_cc_of codes.MOOF) (boxes_of file)

abbrev pub rule_of : Choice → List ℕ → SegmentRule
rule_of choice file = record { form = choice.form; seconds = choice.seconds; length = length file }

-- the times of the tracks of a file before all fragments
abbrev pub times_of : List ℕ → ℕ → TrackTime
times_of file q = time_or (time_with file q (traks (boxes_of file)))

-- the text of the rows of a file
abbrev pub file_text : Choice → List ℕ → List MoofFragments → List ℕ
file_text choice file moofs =
    names_text choice.form
    ++ (segments_text (rule_of choice file) (times_of file) false 0 [] (moofs_of file) moofs ++ end_text choice.form)

-- The rows of the moofs of a file are written. Its faults are stored after those before: of `trex` boxes, of trafs that
-- are no fragments, and of a file without a movie.
pub record WritesSegments (choice : Choice) (file : List ℕ) (old new : Option (List ℕ)) (before after : List TrackFault)
    : Type 0 where
  pub parts : MovieParts
  pub are : AreParts file parts
  pub bytes : Appends old new (file_text choice file parts.moofs.items)
  pub faults_are : after ≡ before ++ (map box_fault parts.errors.items
      ++ (moof_faults (moofs_of file) parts.moofs.items ++ movie_faults (boxes_of file)))
