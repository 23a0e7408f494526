-- The headers of the movie (ISO/IEC 14496-12, 8.2.2), of a track (8.3.2) and of its media (8.4.2), and its edits
-- (8.6.6), as far as they can be read.
use Rattle.std.specs.Prelude.{ℕ, List, [], ◌∷◌, Result, Ok, Err, None, Some}
use Rattle.std.specs.declared.option.Option.{Option}
use Rattle.mp4_check.specs.Durations.{edits_duration}
use Rattle.mp4_check.specs.declared.duration.Times.{Times}
use Rattle.mp4_check.specs.declared.headers.EditTimes.{EditTimes}
use Rattle.mp4_check.specs.declared.headers.EditTimes.TheVariants as edits
use Rattle.mp4_check.specs.declared.headers.TrackHeader.{TrackHeader}
use Rattle.mp4_flat.specs.Boxes.{reads_mdhd, reads_mvhd, reads_tkhd}
use Rattle.mp4_flat.specs.declared.mdhd.MdhdBox.{MdhdBox}
use Rattle.mp4_flat.specs.declared.mvhd.MvhdBox.{MvhdBox}
use Rattle.mp4_flat.specs.declared.tkhd.TkhdBox.{TkhdBox}
use Rattle.mp4_frame.specs.FourCC.{four_cc_of}
use Rattle.mp4_frame.specs.Reading.{Fault}
use Rattle.mp4_frame.specs.declared.codes.TheConstants as codes
use Rattle.mp4_movie.specs.Levels.{Found, after_of, first_in}
use Rattle.mp4_movie.specs.Reads.{own_reading}
use Rattle.mp4_tables.specs.Boxes.{reads_elst}
use Rattle.mp4_tables.specs.declared.elst.ElstBox.{ElstBox}
use Rattle.mp4_tables.specs.declared.elst_entry.ElstEntry.{ElstEntry}
use Rattle.mp4_walk.specs.declared.tree_box.TreeBox.{TreeBox}

abbrev pub track_found : ℕ → Result TkhdBox Fault → Option TrackHeader
track_found position (Err _) = None
track_found position (Ok v) =
    Some (record { position = position; version = v.version; track_id = v.track_id; duration = v.duration })

abbrev pub track_header_at : List ℕ → Option Found → Option TrackHeader
track_header_at file None = None
track_header_at file (Some f) = track_found f.box.position (own_reading reads_tkhd file f.box).outcome

-- the header of a track: its first `tkhd`
abbrev pub track_header : List ℕ → List TreeBox → Option TrackHeader
track_header file trak = track_header_at file (first_in 2 (four_cc_of codes.TKHD) trak)

abbrev pub movie_found : ℕ → Result MvhdBox Fault → Option Times
movie_found position (Err _) = None
movie_found position (Ok v) =
    Some (record { position = position; version = v.version; timescale = v.timescale; duration = v.duration })

abbrev pub movie_times_at : List ℕ → Option Found → Option Times
movie_times_at file None = None
movie_times_at file (Some f) = movie_found f.box.position (own_reading reads_mvhd file f.box).outcome

-- the header of the movie: its first `mvhd`
abbrev pub movie_times : List ℕ → List TreeBox → Option Times
movie_times file movie = movie_times_at file (first_in 1 (four_cc_of codes.MVHD) movie)

abbrev pub media_found : ℕ → Result MdhdBox Fault → Option Times
media_found position (Err _) = None
media_found position (Ok v) =
    Some (record { position = position; version = v.version; timescale = v.timescale; duration = v.duration })

abbrev pub media_times_at : List ℕ → Option Found → Option Times
media_times_at file None = None
media_times_at file (Some f) = media_found f.box.position (own_reading reads_mdhd file f.box).outcome

-- the header of the media of a track: the first `mdhd` in its first `mdia`
abbrev pub media_times : List ℕ → List TreeBox → Option Times
media_times file trak =
    media_times_at file (first_in 3 (four_cc_of codes.MDHD) (after_of (first_in 2 (four_cc_of codes.MDIA) trak)))

abbrev pub known_or_not : Option ℕ → EditTimes
known_or_not None = edits.Unknown
known_or_not (Some duration) = edits.Known duration

abbrev pub edits_in : List ElstEntry → EditTimes
edits_in [] = edits.None
edits_in (e ∷ es) = known_or_not (edits_duration (e ∷ es))

abbrev pub edits_found : Result ElstBox Fault → EditTimes
edits_found (Err _) = edits.Unknown
edits_found (Ok v) = edits_in v.entries

abbrev pub edits_at : List ℕ → Option Found → EditTimes
edits_at file None = edits.None
edits_at file (Some f) = edits_found (own_reading reads_elst file f.box).outcome

-- the edits of a track: the first `elst` in its first `edts`
abbrev pub edits_of : List ℕ → List TreeBox → EditTimes
edits_of file trak =
    edits_at file (first_in 3 (four_cc_of codes.ELST) (after_of (first_in 2 (four_cc_of codes.EDTS) trak)))
