-- A box of any type, which is read and written as its type says. Two tables have a line for each type: one for the name
-- of a box, one for the variant of an AnyBox.
use Rattle.std.specs.Prelude.{ℕ, List, Bool}
use Rattle.mp4_frame.specs.Format.{Format}
use Rattle.mp4_frame.specs.Members.{Known, Unknown, Is, kind, is_known, reading_known, Held, holds, format_held}
use Rattle.mp4_frame.specs.Reading.{Reading}
use Rattle.mp4_frame.specs.declared.box_type.BoxType.{BoxType}
use Rattle.mp4_frame.specs.declared.box_type.BoxType.TheVariants as names
use Rattle.mp4_flat.specs.Boxes.{reads_mvhd, format_mvhd, reads_tkhd, format_tkhd, reads_mdhd, format_mdhd, reads_mehd}
use Rattle.mp4_flat.specs.Boxes.{format_mehd, reads_mfhd, format_mfhd, reads_smhd, format_smhd, reads_vmhd, format_vmhd}
use Rattle.mp4_flat.specs.Boxes.{reads_trex, format_trex, reads_tfdt, format_tfdt}
use Rattle.mp4_tables.specs.Boxes.{reads_stco, format_stco, reads_co64, format_co64, reads_stts, format_stts}
use Rattle.mp4_tables.specs.Boxes.{reads_ctts, format_ctts, reads_stss, format_stss, reads_stsz, format_stsz}
use Rattle.mp4_tables.specs.Boxes.{reads_stsc, format_stsc, reads_elst, format_elst, reads_tfhd, format_tfhd}
use Rattle.mp4_tables.specs.Boxes.{reads_trun, format_trun}
use Rattle.mp4_text.specs.Boxes.{reads_ftyp, format_ftyp, reads_hdlr, format_hdlr, reads_data, format_data, reads_emsg}
use Rattle.mp4_text.specs.Boxes.{format_emsg, reads_url, format_url, reads_dref, format_dref, reads_dinf, format_dinf}
use Rattle.mp4_entries.specs.Boxes.{reads_avcc, format_avcc, reads_avc1, format_avc1, reads_hvcc, format_hvcc}
use Rattle.mp4_entries.specs.Boxes.{reads_hev1, format_hev1, reads_vpcc, format_vpcc, reads_vp09, format_vp09}
use Rattle.mp4_entries.specs.Boxes.{reads_tx3g, format_tx3g}
use Rattle.mp4_sound.specs.Boxes.{reads_esds, format_esds, reads_mp4a, format_mp4a, reads_stsd, format_stsd}
use Rattle.mp4_stream.specs.declared.any_box.AnyBox.{AnyBox}
use Rattle.mp4_stream.specs.declared.any_box.AnyBox.TheVariants as any

-- the type of the boxes with a name
abbrev pub kinds : BoxType → Known AnyBox
kinds names.FtypBox = Is (kind reads_ftyp format_ftyp any.FtypBox)
kinds names.MvhdBox = Is (kind reads_mvhd format_mvhd any.MvhdBox)
kinds names.TkhdBox = Is (kind reads_tkhd format_tkhd any.TkhdBox)
kinds names.MdhdBox = Is (kind reads_mdhd format_mdhd any.MdhdBox)
kinds names.MehdBox = Is (kind reads_mehd format_mehd any.MehdBox)
kinds names.MfhdBox = Is (kind reads_mfhd format_mfhd any.MfhdBox)
kinds names.SmhdBox = Is (kind reads_smhd format_smhd any.SmhdBox)
kinds names.VmhdBox = Is (kind reads_vmhd format_vmhd any.VmhdBox)
kinds names.TrexBox = Is (kind reads_trex format_trex any.TrexBox)
kinds names.TfdtBox = Is (kind reads_tfdt format_tfdt any.TfdtBox)
kinds names.StcoBox = Is (kind reads_stco format_stco any.StcoBox)
kinds names.Co64Box = Is (kind reads_co64 format_co64 any.Co64Box)
kinds names.SttsBox = Is (kind reads_stts format_stts any.SttsBox)
kinds names.CttsBox = Is (kind reads_ctts format_ctts any.CttsBox)
kinds names.StssBox = Is (kind reads_stss format_stss any.StssBox)
kinds names.StszBox = Is (kind reads_stsz format_stsz any.StszBox)
kinds names.StscBox = Is (kind reads_stsc format_stsc any.StscBox)
kinds names.ElstBox = Is (kind reads_elst format_elst any.ElstBox)
kinds names.TfhdBox = Is (kind reads_tfhd format_tfhd any.TfhdBox)
kinds names.TrunBox = Is (kind reads_trun format_trun any.TrunBox)
kinds names.HdlrBox = Is (kind reads_hdlr format_hdlr any.HdlrBox)
kinds names.DataBox = Is (kind reads_data format_data any.DataBox)
kinds names.EmsgBox = Is (kind reads_emsg format_emsg any.EmsgBox)
kinds names.UrlBox = Is (kind reads_url format_url any.UrlBox)
kinds names.DrefBox = Is (kind reads_dref format_dref any.DrefBox)
kinds names.DinfBox = Is (kind reads_dinf format_dinf any.DinfBox)
kinds names.AvcCBox = Is (kind reads_avcc format_avcc any.AvcCBox)
kinds names.Avc1Box = Is (kind reads_avc1 format_avc1 any.Avc1Box)
kinds names.HvcCBox = Is (kind reads_hvcc format_hvcc any.HvcCBox)
kinds names.Hev1Box = Is (kind reads_hev1 format_hev1 any.Hev1Box)
kinds names.VpccBox = Is (kind reads_vpcc format_vpcc any.VpccBox)
kinds names.Vp09Box = Is (kind reads_vp09 format_vp09 any.Vp09Box)
kinds names.Tx3gBox = Is (kind reads_tx3g format_tx3g any.Tx3gBox)
kinds names.EsdsBox = Is (kind reads_esds format_esds any.EsdsBox)
kinds names.Mp4aBox = Is (kind reads_mp4a format_mp4a any.Mp4aBox)
kinds names.StsdBox = Is (kind reads_stsd format_stsd any.StsdBox)
kinds _ = Unknown

-- the format of a box's type, applied to the box
abbrev pub held : AnyBox → Held AnyBox
held (any.FtypBox b) = holds format_ftyp any.FtypBox b
held (any.MvhdBox b) = holds format_mvhd any.MvhdBox b
held (any.TkhdBox b) = holds format_tkhd any.TkhdBox b
held (any.MdhdBox b) = holds format_mdhd any.MdhdBox b
held (any.MehdBox b) = holds format_mehd any.MehdBox b
held (any.MfhdBox b) = holds format_mfhd any.MfhdBox b
held (any.SmhdBox b) = holds format_smhd any.SmhdBox b
held (any.VmhdBox b) = holds format_vmhd any.VmhdBox b
held (any.TrexBox b) = holds format_trex any.TrexBox b
held (any.TfdtBox b) = holds format_tfdt any.TfdtBox b
held (any.StcoBox b) = holds format_stco any.StcoBox b
held (any.Co64Box b) = holds format_co64 any.Co64Box b
held (any.SttsBox b) = holds format_stts any.SttsBox b
held (any.CttsBox b) = holds format_ctts any.CttsBox b
held (any.StssBox b) = holds format_stss any.StssBox b
held (any.StszBox b) = holds format_stsz any.StszBox b
held (any.StscBox b) = holds format_stsc any.StscBox b
held (any.ElstBox b) = holds format_elst any.ElstBox b
held (any.TfhdBox b) = holds format_tfhd any.TfhdBox b
held (any.TrunBox b) = holds format_trun any.TrunBox b
held (any.HdlrBox b) = holds format_hdlr any.HdlrBox b
held (any.DataBox b) = holds format_data any.DataBox b
held (any.EmsgBox b) = holds format_emsg any.EmsgBox b
held (any.UrlBox b) = holds format_url any.UrlBox b
held (any.DrefBox b) = holds format_dref any.DrefBox b
held (any.DinfBox b) = holds format_dinf any.DinfBox b
held (any.AvcCBox b) = holds format_avcc any.AvcCBox b
held (any.Avc1Box b) = holds format_avc1 any.Avc1Box b
held (any.HvcCBox b) = holds format_hvcc any.HvcCBox b
held (any.Hev1Box b) = holds format_hev1 any.Hev1Box b
held (any.VpccBox b) = holds format_vpcc any.VpccBox b
held (any.Vp09Box b) = holds format_vp09 any.Vp09Box b
held (any.Tx3gBox b) = holds format_tx3g any.Tx3gBox b
held (any.EsdsBox b) = holds format_esds any.EsdsBox b
held (any.Mp4aBox b) = holds format_mp4a any.Mp4aBox b
held (any.StsdBox b) = holds format_stsd any.StsdBox b

-- the least number of bytes of a box with this name, whatever its size says
abbrev pub least_any : BoxType → ℕ
least_any names.Mp4aBox = 36
least_any _ = 0

abbrev pub format_any : Format AnyBox
format_any = format_held held

abbrev pub known_any : BoxType → Bool
known_any name = is_known (kinds name)

abbrev pub reading_any : BoxType → List ℕ → ℕ → ℕ → Reading AnyBox
reading_any name = reading_known (kinds name)
