-- The fields of the boxes, as rows have them: a line for each. A value with a sign that the box keeps as bits is read
-- as a number that may be negative.
use Rattle.std.specs.Prelude.{ℕ, List, [], ◌∷◌}
use Rattle.std.specs.Int.{w16, w32, cast_signed}
use Rattle.mp4_flat.specs.declared.mdhd.MdhdBox.{MdhdBox}
use Rattle.mp4_flat.specs.declared.mehd.MehdBox.{MehdBox}
use Rattle.mp4_flat.specs.declared.mfhd.MfhdBox.{MfhdBox}
use Rattle.mp4_flat.specs.declared.mvhd.MvhdBox.{MvhdBox}
use Rattle.mp4_flat.specs.declared.smhd.SmhdBox.{SmhdBox}
use Rattle.mp4_flat.specs.declared.tfdt.TfdtBox.{TfdtBox}
use Rattle.mp4_flat.specs.declared.tkhd.TkhdBox.{TkhdBox}
use Rattle.mp4_flat.specs.declared.trex.TrexBox.{TrexBox}
use Rattle.mp4_flat.specs.declared.vmhd.VmhdBox.{VmhdBox}
use Rattle.mp4_media.specs.DataType.{number_data_type}
use Rattle.mp4_tables.specs.declared.elst_entry.ElstEntry.{ElstEntry}
use Rattle.mp4_tables.specs.declared.tfhd.TfhdBox.{TfhdBox}
use Rattle.mp4_tables.specs.declared.trun.TrunBox.{TrunBox}
use Rattle.mp4_text.specs.declared.data.DataBox.{DataBox}
use Rattle.mp4_text.specs.declared.emsg.EmsgBox.{EmsgBox}
use Rattle.mp4_text.specs.declared.ftyp.FtypBox.{FtypBox}
use Rattle.mp4_text.specs.declared.hdlr.HdlrBox.{HdlrBox}
use Rattle.mp4_text.specs.declared.url.UrlBox.{UrlBox}
use Rattle.mp4_show.specs.Edits.{signed_time}
use Rattle.mp4_show.specs.Row.{Part, number, signed, number_if, signed_if, bytes, code, codes, language, matrix}
use Rattle.mp4_show.specs.Row.{media_time, text}

-- ---- movies and tracks

abbrev pub ftyp_row : FtypBox → List Part
ftyp_row b =
    code b.major_brand
    ∷ number b.minor_version
    ∷ codes b.compatible_brands
    ∷ []

abbrev pub mvhd_row : MvhdBox → List Part
mvhd_row b =
    number b.version
    ∷ number b.flags
    ∷ number b.creation_time
    ∷ number b.modification_time
    ∷ number b.timescale
    ∷ number b.duration
    ∷ signed (cast_signed w32 b.rate)
    ∷ signed (cast_signed w16 b.volume)
    ∷ matrix b.matrix
    ∷ number b.next_track_id
    ∷ []

abbrev pub tkhd_row : TkhdBox → List Part
tkhd_row b =
    number b.version
    ∷ number b.flags
    ∷ number b.creation_time
    ∷ number b.modification_time
    ∷ number b.track_id
    ∷ number b.duration
    ∷ signed (cast_signed w16 b.layer)
    ∷ signed (cast_signed w16 b.alternate_group)
    ∷ signed (cast_signed w16 b.volume)
    ∷ matrix b.matrix
    ∷ number b.width
    ∷ number b.height
    ∷ []

abbrev pub mdhd_row : MdhdBox → List Part
mdhd_row b =
    number b.version
    ∷ number b.flags
    ∷ number b.creation_time
    ∷ number b.modification_time
    ∷ number b.timescale
    ∷ number b.duration
    ∷ language b.language
    ∷ []

abbrev pub hdlr_row : HdlrBox → List Part
hdlr_row b =
    number b.version
    ∷ number b.flags
    ∷ code b.handler_type
    ∷ text b.name
    ∷ []

-- an edit of a box of a version
abbrev pub edit_row : ℕ → ElstEntry → List Part
edit_row version x =
    number x.segment_duration
    ∷ media_time (signed_time version x.media_time)
    ∷ signed (cast_signed w16 x.media_rate)
    ∷ signed (cast_signed w16 x.media_rate_fraction)
    ∷ []

-- ---- media

abbrev pub vmhd_row : VmhdBox → List Part
vmhd_row b =
    number b.version
    ∷ number b.flags
    ∷ number b.graphics_mode
    ∷ number b.op_color.red
    ∷ number b.op_color.green
    ∷ number b.op_color.blue
    ∷ []

abbrev pub smhd_row : SmhdBox → List Part
smhd_row b =
    number b.version
    ∷ number b.flags
    ∷ signed b.balance
    ∷ []

abbrev pub url_row : UrlBox → List Part
url_row b =
    number b.version
    ∷ number b.flags
    ∷ text b.location
    ∷ []

-- ---- movie fragments

abbrev pub mehd_row : MehdBox → List Part
mehd_row b =
    number b.version
    ∷ number b.flags
    ∷ number b.fragment_duration
    ∷ []

abbrev pub trex_row : TrexBox → List Part
trex_row b =
    number b.version
    ∷ number b.flags
    ∷ number b.track_id
    ∷ number b.default_sample_description_index
    ∷ number b.default_sample_duration
    ∷ number b.default_sample_size
    ∷ number b.default_sample_flags
    ∷ []

abbrev pub mfhd_row : MfhdBox → List Part
mfhd_row b =
    number b.version
    ∷ number b.flags
    ∷ number b.sequence_number
    ∷ []

abbrev pub tfdt_row : TfdtBox → List Part
tfdt_row b =
    number b.version
    ∷ number b.flags
    ∷ number b.base_media_decode_time
    ∷ []

abbrev pub tfhd_row : TfhdBox → List Part
tfhd_row b =
    number b.version
    ∷ number b.flags
    ∷ number b.track_id
    ∷ number_if b.base_data_offset
    ∷ number_if b.sample_description_index
    ∷ number_if b.default_sample_duration
    ∷ number_if b.default_sample_size
    ∷ number_if b.default_sample_flags
    ∷ []

-- the fields before the samples
abbrev pub trun_row : TrunBox → List Part
trun_row b =
    number b.version
    ∷ number b.flags
    ∷ number b.sample_count
    ∷ signed_if b.data_offset
    ∷ number_if b.first_sample_flags
    ∷ []

-- ---- metadata and events

-- the field before the value
abbrev pub data_row : DataBox → List Part
data_row b =
    number (number_data_type b.data_type)
    ∷ []

abbrev pub emsg_row : EmsgBox → List Part
emsg_row b =
    number b.version
    ∷ number b.flags
    ∷ text b.scheme_id_uri
    ∷ text b.value
    ∷ number b.timescale
    ∷ number_if b.presentation_time
    ∷ number_if b.presentation_time_delta
    ∷ number b.event_duration
    ∷ number b.id
    ∷ bytes b.message_data
    ∷ []
