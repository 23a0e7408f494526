-- The headers of a track (ISO/IEC 14496-12, 8.3.2, 8.4.2, 8.4.3, 8.4.6), its edits (8.6.6) and its references (8.3.3),
-- as far as they can be read. `trak` begins with the boxes inside the `trak`.
use Rattle.std.specs.Prelude.{ℕ, ◌+◌, ◌*◌, ◌==◌, ◌||◌, Bool, false, true, List, [], ◌∷◌, max, None, Some}
use Rattle.std.specs.Prelude.{if◌then◌else◌}
use Rattle.std.specs.declared.option.Option.{Option}
use Rattle.mp4_extra_tracks.specs.declared.elng.Elng.{Elng}
use Rattle.mp4_extra_tracks.specs.declared.tref.Tref.{Tref}
use Rattle.mp4_flat.specs.Boxes.{reads_mdhd, reads_tkhd}
use Rattle.mp4_flat.specs.declared.mdhd.MdhdBox.{MdhdBox}
use Rattle.mp4_flat.specs.declared.tkhd.TkhdBox.{TkhdBox}
use Rattle.mp4_frame.specs.FourCC.{four_cc_of}
use Rattle.mp4_frame.specs.Reading.{Reading}
use Rattle.mp4_frame.specs.declared.codes.TheConstants as codes
use Rattle.mp4_info.specs.Found.{found}
use Rattle.mp4_info.specs.Languages.{language_of, letters_or_und}
use Rattle.mp4_info.specs.Rotation.{rotation_of}
use Rattle.mp4_info.specs.declared.headers.Headers.{Headers}
use Rattle.mp4_movie.specs.Levels.{after_of, first_in}
use Rattle.mp4_tables.specs.Boxes.{reads_elst}
use Rattle.mp4_text.specs.Boxes.{reads_hdlr}
use Rattle.mp4_walk.specs.declared.tree_box.TreeBox.{TreeBox}

-- the readings of the declared boxes that are needed
pub record HeaderReadings : Type 0 where
  pub elng : List ℕ → ℕ → ℕ → Reading Elng
  pub tref : List ℕ → ℕ → ℕ → Reading Tref

-- the boxes inside the `mdia` and inside the `edts` of a track
abbrev pub media_in : List TreeBox → List TreeBox
media_in trak = after_of (first_in 2 (four_cc_of codes.MDIA) trak)

abbrev pub edits_in : List TreeBox → List TreeBox
edits_in trak = after_of (first_in 2 (four_cc_of codes.EDTS) trak)

abbrev pub headers_in : HeaderReadings → List ℕ → List TreeBox → Headers
headers_in r file trak = record {
  track = found reads_tkhd file (first_in 2 (four_cc_of codes.TKHD) trak);
  media = found reads_mdhd file (first_in 3 (four_cc_of codes.MDHD) (media_in trak));
  handler = found reads_hdlr file (first_in 3 (four_cc_of codes.HDLR) (media_in trak));
  language = found r.elng file (first_in 3 (four_cc_of codes.ELNG) (media_in trak));
  edits = found reads_elst file (first_in 3 (four_cc_of codes.ELST) (edits_in trak));
  references = found r.tref file (first_in 2 (four_cc_of codes.TREF) trak);
}

-- the track_ID and the timescale of the media, 0 where they are not known
abbrev pub id_of : Option TkhdBox → ℕ
id_of None = 0
id_of (Some v) = v.track_id

abbrev pub timescale_of : Option MdhdBox → ℕ
timescale_of None = 0
timescale_of (Some v) = v.timescale

abbrev pub turn : Option TkhdBox → Option ℕ
turn None = None
turn (Some v) = rotation_of v.matrix

-- the language of a track, empty if it is not known
abbrev pub letters_of : Option MdhdBox → List ℕ
letters_of None = []
letters_of (Some v) = letters_or_und v.language

abbrev pub language : Headers → List ℕ
language h = language_of h.language (letters_of h.media)
