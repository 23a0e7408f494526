-- The edit list of a track, and the timescale of its movie.
use Rattle.std.specs.Prelude.{◌≡◌, ℕ, Bool, false, List, Result, Ok, Err, None, Some}
use Rattle.std.specs.declared.option.Option.{Option}
use Rattle.mp4_flat.specs.Boxes.{reads_mvhd}
use Rattle.mp4_frame.specs.FourCC.{four_cc_of}
use Rattle.mp4_frame.specs.declared.codes.TheConstants as codes
use Rattle.mp4_movie.specs.Levels.{Found, first_in}
use Rattle.mp4_movie.specs.Problems.{IsErrorOf, Problem, ◌>>=◌}
use Rattle.mp4_movie.specs.Reads.{optional, required}
use Rattle.mp4_movie.specs.declared.error.BoxError.{BoxError}
use Rattle.mp4_samples.specs.Edits.{EditList, edits_in, edits_of}
use Rattle.mp4_tables.specs.Boxes.{reads_elst}
use Rattle.mp4_tables.specs.ElstEntry.{is_long}
use Rattle.mp4_tables.specs.declared.elst.ElstBox.{ElstBox}
use Rattle.mp4_tables.specs.declared.elst_entry.ElstEntry.{ElstEntry}
use Rattle.mp4_walk.specs.declared.tree_box.TreeBox.{TreeBox}
use Rattle.mp4_inspect_samples.specs.declared.edits.EditParts.{EditParts}

-- the timescale in the header of a movie (ISO/IEC 14496-12, 8.2.2). `movie` begins with the boxes inside the moov
abbrev pub movie_timescale : List ℕ → List TreeBox → Result ℕ Problem
movie_timescale file movie =
    required reads_mvhd codes.MVHD file (first_in 1 (four_cc_of codes.MVHD) movie) >>= λ h. Ok h.timescale

abbrev pub list_in : List ℕ → Option Found → Result (Option ElstBox) Problem
list_in file None = Ok None
list_in file (Some edts) = optional reads_elst codes.ELST file (first_in 3 (four_cc_of codes.ELST) edts.after)

-- the edit list of a track, if it has one (8.6.5, 8.6.6). `trak` begins with the boxes inside its trak
abbrev pub edit_list_of : List ℕ → List TreeBox → Result (Option ElstBox) Problem
edit_list_of file trak = list_in file (first_in 2 (four_cc_of codes.EDTS) trak)

-- The parts of an edit list: the timescales of the movie and of the media, and the list. If one of them can't be read,
-- the first that can't is the error.
abbrev pub ArePartsBy : Result ℕ Problem → Result ℕ BoxError → Result (Option ElstBox) Problem → Result EditParts
    BoxError
    → Type 0
ArePartsBy (Err p) media list r = (e : BoxError) × (r ≡ Err e) × IsErrorOf e p
ArePartsBy (Ok movie) (Err e) list r = r ≡ Err e
ArePartsBy (Ok movie) (Ok ticks) (Err p) r = (e : BoxError) × (r ≡ Err e) × IsErrorOf e p
ArePartsBy (Ok movie) (Ok ticks) (Ok found) r =
    r ≡ Ok (record { list = found; movie_timescale = movie; media_timescale = ticks })

-- those of a track. `media` is the timescale of its media
abbrev pub AreEditParts : List ℕ → List TreeBox → List TreeBox → Result ℕ BoxError → Result EditParts BoxError → Type 0
AreEditParts file movie trak media r = ArePartsBy (movie_timescale file movie) media (edit_list_of file trak) r

-- the edits of a list, which are those of the whole media without a list (8.6.6)
abbrev pub entries_by : Option ElstBox → List ElstEntry
entries_by None = edits_of None
entries_by (Some v) = edits_in v.entries

abbrev pub is_long_by : Option ElstBox → Bool
is_long_by None = false
is_long_by (Some v) = is_long v.version

abbrev pub edits_by : EditParts → EditList
edits_by parts = record {
  entries = entries_by parts.list;
  long = is_long_by parts.list;
  movie_timescale = parts.movie_timescale;
  media_timescale = parts.media_timescale;
}
