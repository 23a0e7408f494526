-- The samples of a file are written, and its faults stored, by its parts.
use Rattle.std.proofs.Common.{◌≡◌, List, ◌++◌, ◌∙◌, [], false, map, ap, subst, append_assoc, ℕ}
use Rattle.std.specs.Io.KnownBytes.{Appends}
use Rattle.std.specs.declared.option.Option.{Option}
use Rattle.mp4_frame.specs.FourCC.{four_cc_of}
use Rattle.mp4_frame.specs.declared.codes.TheConstants as codes
use Rattle.mp4_movie.specs.Levels.{after_of, all_in, first_in}
use Rattle.mp4_walk.specs.FileBoxes.{boxes_of}
use Rattle.mp4_walk.specs.declared.tree_box.TreeBox.{TreeBox}
use Rattle.mp4_inspect_samples.specs.Rows.{end_text, front_text}
use Rattle.mp4_inspect_samples.specs.Samples.{AreMissing, AreParts, EntersTracks, Tells, WritesSamples}
use Rattle.mp4_inspect_samples.specs.Samples.{WritesTracks, box_fault}
use Rattle.mp4_inspect_samples.specs.Samples.{inputs_of, movie_faults, trafs_by}
use Rattle.mp4_inspect_samples.specs.Trafs.{header_faults}
use Rattle.mp4_inspect_samples.specs.declared.choice.Choice.{Choice}
use Rattle.mp4_inspect_samples.specs.declared.fault.TrackFault.{TrackFault}
use Rattle.mp4_inspect_samples.specs.declared.samples_of_file.MovieParts.{MovieParts}
use Rattle.mp4_inspect_samples.specs.declared.tracks.Ahead.{Ahead}

all_told : (before one two three four five a b c d e : List TrackFault) → one ≡ before ++ a → two ≡ one ++ b
    → three ≡ two ++ c → four ≡ three ++ d → five ≡ four ++ e → five ≡ before ++ (a ++ (b ++ (c ++ (d ++ e))))
all_told before one two three four five a b c d e h1 h2 h3 h4 h5 =
    h5
    ∙ ap (λ (ts : List TrackFault). ts ++ e) h4 ∙ append_assoc three d e
    ∙ ap (λ (ts : List TrackFault). ts ++ (d ++ e)) h3 ∙ append_assoc two c (d ++ e)
    ∙ ap (λ (ts : List TrackFault). ts ++ (c ++ (d ++ e))) h2 ∙ append_assoc one b (c ++ (d ++ e))
    ∙ ap (λ (ts : List TrackFault). ts ++ (b ++ (c ++ (d ++ e)))) h1
    ∙ append_assoc before a (b ++ (c ++ (d ++ e)))

-- The boxes of the file are given as `boxes`, and those inside the moov as `movie`.
pub file_written : (choice : Choice) (file : List ℕ) (boxes movie : List TreeBox) (parts : MovieParts)
    (old begun written new : Option (List ℕ)) (before one two three four five : List TrackFault) (ahead : Ahead)
    → boxes ≡ boxes_of file → movie ≡ after_of (first_in 0 (four_cc_of codes.MOOV) boxes) → AreParts file parts
    → one ≡ before ++ map box_fault parts.errors.items
    → two ≡ one ++ header_faults (trafs_by file parts)
    → Appends old begun (front_text choice.form)
    → (tracks : EntersTracks (inputs_of file choice parts) movie parts.infos.items begun written two three ahead)
    → Tells (AreMissing choice.track (trafs_by file parts) tracks.met) three four
    → five ≡ four ++ movie_faults boxes
    → Appends written new (end_text choice.form)
    → WritesSamples choice file old new before five
file_written choice file boxes movie parts old begun written new before one two three four five ahead same inner are h1
    h2 front tracks absent h5 end = record {
      parts = parts;
      are = are;
      begun = begun;
      front = front;
      written = written;
      told = tracks.told;
      met = tracks.met;
      tracks = subst (λ (m : List TreeBox).
          WritesTracks (inputs_of file choice parts) m [] (all_in 1 (four_cc_of codes.TRAK) m) parts.infos.items false
          begun
          written tracks.told tracks.met)
          (inner ∙ ap (λ (bs : List TreeBox). after_of (first_in 0 (four_cc_of codes.MOOV) bs)) same) tracks.writes;
      absent = absent.0;
      are_absent = absent.1;
      end = end;
      faults_are = all_told before one two three four five (map box_fault parts.errors.items)
          (header_faults (trafs_by file parts)) tracks.told absent.0 (movie_faults (boxes_of file)) h1 h2 tracks.told_is
          absent.2 (h5 ∙ ap (λ (bs : List TreeBox). four ++ movie_faults bs) same);
    }
