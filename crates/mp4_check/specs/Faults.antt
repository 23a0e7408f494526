-- All faults of a file, in the order in which `mp4inspect check` writes them: first those of single boxes, then those
-- of the tracks and of the movie, of the fragments and of the indexes, each in the order of the file, and at the end
-- that of a file without a movie. docs/CHECK.md lists them.
use Rattle.std.specs.Prelude.{ℕ, ◌==◌, ◌&&◌, Bool, false, List, [], ◌++◌, length, is_some, None, Some}
use Rattle.std.specs.Prelude.{if◌then◌else◌}
use Rattle.std.specs.List.{list_any}
use Rattle.std.specs.declared.option.Option.{Option}
use Rattle.mp4_check.specs.BoxFaults.{faults_of_boxes}
use Rattle.mp4_check.specs.FaultValues.{Value, fault_at}
use Rattle.mp4_check.specs.FragmentFaults.{File, fragment_faults}
use Rattle.mp4_check.specs.Headers.{movie_times}
use Rattle.mp4_check.specs.Indexes.{index_faults}
use Rattle.mp4_check.specs.Lines.{Writes}
use Rattle.mp4_check.specs.Media.{media_of}
use Rattle.mp4_check.specs.Parts.{is_file}
use Rattle.mp4_content.specs.Paths.{in_file}
use Rattle.mp4_check.specs.TrackFaults.{Facts, faults_of_tracks, longest_track, movie_faults}
use Rattle.mp4_check.specs.declared.fault.What.{What}
use Rattle.mp4_check.specs.declared.fault.What.TheVariants as what
use Rattle.mp4_check.specs.declared.lines.Form.{Form}
use Rattle.mp4_check.specs.declared.lines.Told.{Told}
use Rattle.mp4_extra_samples.specs.declared.sidx.Sidx.{Sidx}
use Rattle.mp4_frame.specs.FourCC.{four_cc_of, number_of}
use Rattle.mp4_frame.specs.Reading.{Reading}
use Rattle.mp4_frame.specs.declared.box_type.BoxType.{BoxType}
use Rattle.mp4_frame.specs.declared.codes.TheConstants as codes
use Rattle.mp4_frame.specs.declared.four_cc.FourCC.{FourCC}
use Rattle.mp4_movie.specs.Levels.{first_in, movie_in}
use Rattle.mp4_movie.specs.Movies.{traks}
use Rattle.mp4_walk.specs.FileBoxes.{boxes_of}
use Rattle.mp4_walk.specs.declared.tree_box.TreeBox.{TreeBox}

abbrev pub is_file_code : Option FourCC → Bool
is_file_code None = false
is_file_code (Some code) = is_file (number_of code)

-- a box of the top level for which a file may be made
abbrev pub is_top_file : TreeBox → Bool
is_top_file x = (x.depth == 0) && is_file_code x.code

abbrev pub lacks_movie : List TreeBox → Option What
lacks_movie boxes = if list_any is_top_file boxes then None else Some what.NoMovie

abbrev pub facts_of : List ℕ → List TreeBox → Facts
facts_of file boxes = record {
  media = media_of (length file) boxes;
  length = length file;
  times = movie_times file (movie_in boxes);
  fragmented = is_some (first_in 1 (four_cc_of codes.MVEX) (movie_in boxes));
}

abbrev pub file_of : List ℕ → List TreeBox → File
file_of file boxes =
    record { bytes = file; boxes = boxes; media = media_of (length file) boxes; length = length file }

-- the faults of the tracks of a file with these boxes, and of its movie
abbrev pub tracks_faults : List ℕ → List TreeBox → List Value
tracks_faults file boxes =
    faults_of_tracks file (facts_of file boxes) [] 0 (traks boxes)
    ++ movie_faults (facts_of file boxes) (longest_track file (traks boxes))

-- the faults of a file with these boxes. Boxes with these names are read in this way, and an index in that
abbrev pub faults_in : {A : Type 0} → (BoxType → Bool) → (BoxType → List ℕ → ℕ → ℕ → Reading A)
    → (List ℕ → ℕ → ℕ → Reading Sidx) → List ℕ → List TreeBox → List Value
faults_in known reading reads_sidx file boxes =
    faults_of_boxes known reading file [] boxes
    ++ (tracks_faults file boxes
    ++ (fragment_faults (file_of file boxes)
    ++ (index_faults reads_sidx file boxes (length file)
    ++ fault_at 0 (in_file codes.MOOV 0) (lacks_movie boxes))))

-- the faults of a file
abbrev pub faults_of : {A : Type 0} → (BoxType → Bool) → (BoxType → List ℕ → ℕ → ℕ → Reading A)
    → (List ℕ → ℕ → ℕ → Reading Sidx) → List ℕ → List Value
faults_of known reading reads_sidx file = faults_in known reading reads_sidx file (boxes_of file)

-- before the first fault of a file, after faults of other files if there were any
abbrev pub told_before : Bool → Told
told_before any = record { any = any; failures = false; warnings = false }

-- the faults of a file are written, and no others, and `told` summarizes them
abbrev pub WritesCheck : {A : Type 0} → (BoxType → Bool) → (BoxType → List ℕ → ℕ → ℕ → Reading A)
    → (List ℕ → ℕ → ℕ → Reading Sidx) → Form → Bool → List ℕ → Option (List ℕ) → Option (List ℕ) → Told → Type 0
WritesCheck known reading reads_sidx form any file old new told =
    Writes form (told_before any) (faults_of known reading reads_sidx file) old new told
