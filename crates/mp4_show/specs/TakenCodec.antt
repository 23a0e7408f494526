-- The boxes of the codec's types, as they are taken out of JSON.
use Rattle.std.specs.Prelude.{Option, None, Ok}
use Rattle.json.specs.Json.{Json}
use Rattle.mp4_frame.specs.declared.box_type.BoxType.{BoxType}
use Rattle.mp4_frame.specs.declared.box_type.BoxType.TheVariants as names
use Rattle.mp4_entries.specs.declared.avc1.Avc1Box.{Avc1Box}
use Rattle.mp4_entries.specs.declared.avcc.AvcCBox.{AvcCBox}
use Rattle.mp4_entries.specs.declared.hev1.Hev1Box.{Hev1Box}
use Rattle.mp4_entries.specs.declared.hvcc.HvcCBox.{HvcCBox}
use Rattle.mp4_entries.specs.declared.tx3g.Tx3gBox.{Tx3gBox}
use Rattle.mp4_entries.specs.declared.vp09.Vp09Box.{Vp09Box}
use Rattle.mp4_entries.specs.declared.vpcc.VpccBox.{VpccBox}
use Rattle.mp4_flat.specs.declared.mdhd.MdhdBox.{MdhdBox}
use Rattle.mp4_flat.specs.declared.mehd.MehdBox.{MehdBox}
use Rattle.mp4_flat.specs.declared.mfhd.MfhdBox.{MfhdBox}
use Rattle.mp4_flat.specs.declared.mvhd.MvhdBox.{MvhdBox}
use Rattle.mp4_flat.specs.declared.smhd.SmhdBox.{SmhdBox}
use Rattle.mp4_flat.specs.declared.tfdt.TfdtBox.{TfdtBox}
use Rattle.mp4_flat.specs.declared.tkhd.TkhdBox.{TkhdBox}
use Rattle.mp4_flat.specs.declared.trex.TrexBox.{TrexBox}
use Rattle.mp4_flat.specs.declared.vmhd.VmhdBox.{VmhdBox}
use Rattle.mp4_sound.specs.declared.esds.EsdsBox.{EsdsBox}
use Rattle.mp4_sound.specs.declared.mp4a.Mp4aBox.{Mp4aBox}
use Rattle.mp4_sound.specs.declared.stsd.StsdBox.{StsdBox}
use Rattle.mp4_tables.specs.declared.co64.Co64Box.{Co64Box}
use Rattle.mp4_tables.specs.declared.ctts.CttsBox.{CttsBox}
use Rattle.mp4_tables.specs.declared.elst.ElstBox.{ElstBox}
use Rattle.mp4_tables.specs.declared.stco.StcoBox.{StcoBox}
use Rattle.mp4_tables.specs.declared.stsc.StscBox.{StscBox}
use Rattle.mp4_tables.specs.declared.stss.StssBox.{StssBox}
use Rattle.mp4_tables.specs.declared.stsz.StszBox.{StszBox}
use Rattle.mp4_tables.specs.declared.stts.SttsBox.{SttsBox}
use Rattle.mp4_tables.specs.declared.tfhd.TfhdBox.{TfhdBox}
use Rattle.mp4_tables.specs.declared.trun.TrunBox.{TrunBox}
use Rattle.mp4_text.specs.declared.data.DataBox.{DataBox}
use Rattle.mp4_text.specs.declared.dinf.DinfBox.{DinfBox}
use Rattle.mp4_text.specs.declared.dref.DrefBox.{DrefBox}
use Rattle.mp4_text.specs.declared.emsg.EmsgBox.{EmsgBox}
use Rattle.mp4_text.specs.declared.ftyp.FtypBox.{FtypBox}
use Rattle.mp4_text.specs.declared.hdlr.HdlrBox.{HdlrBox}
use Rattle.mp4_text.specs.declared.url.UrlBox.{UrlBox}
use Rattle.mp4_stream.specs.declared.any_box.AnyBox.{AnyBox}
use Rattle.mp4_stream.specs.declared.any_box.AnyBox.TheVariants as any
use Rattle.mp4_shown.specs.TakenShapes.{Takes, document_as}
use Rattle.mp4_shown.specs.Taking.{Taking}

-- what is taken of a box of each type
pub record CodecTaken : Type 0 where
  pub ftyp : Takes FtypBox
  pub mvhd : Takes MvhdBox
  pub tkhd : Takes TkhdBox
  pub mdhd : Takes MdhdBox
  pub mehd : Takes MehdBox
  pub mfhd : Takes MfhdBox
  pub smhd : Takes SmhdBox
  pub vmhd : Takes VmhdBox
  pub trex : Takes TrexBox
  pub tfdt : Takes TfdtBox
  pub stco : Takes StcoBox
  pub co64 : Takes Co64Box
  pub stts : Takes SttsBox
  pub ctts : Takes CttsBox
  pub stss : Takes StssBox
  pub stsz : Takes StszBox
  pub stsc : Takes StscBox
  pub elst : Takes ElstBox
  pub tfhd : Takes TfhdBox
  pub trun : Takes TrunBox
  pub hdlr : Takes HdlrBox
  pub metadata : Takes DataBox
  pub emsg : Takes EmsgBox
  pub url : Takes UrlBox
  pub dref : Takes DrefBox
  pub dinf : Takes DinfBox
  pub avcc : Takes AvcCBox
  pub avc1 : Takes Avc1Box
  pub hvcc : Takes HvcCBox
  pub hev1 : Takes Hev1Box
  pub vpcc : Takes VpccBox
  pub vp09 : Takes Vp09Box
  pub tx3g : Takes Tx3gBox
  pub esds : Takes EsdsBox
  pub mp4a : Takes Mp4aBox
  pub stsd : Takes StsdBox

-- the box with a name that a text is, if the codec has its type
abbrev pub codec_document : CodecTaken → BoxType → Option Json → Taking (Option AnyBox)
codec_document t names.FtypBox j = document_as any.FtypBox t.ftyp j
codec_document t names.MvhdBox j = document_as any.MvhdBox t.mvhd j
codec_document t names.TkhdBox j = document_as any.TkhdBox t.tkhd j
codec_document t names.MdhdBox j = document_as any.MdhdBox t.mdhd j
codec_document t names.MehdBox j = document_as any.MehdBox t.mehd j
codec_document t names.MfhdBox j = document_as any.MfhdBox t.mfhd j
codec_document t names.SmhdBox j = document_as any.SmhdBox t.smhd j
codec_document t names.VmhdBox j = document_as any.VmhdBox t.vmhd j
codec_document t names.TrexBox j = document_as any.TrexBox t.trex j
codec_document t names.TfdtBox j = document_as any.TfdtBox t.tfdt j
codec_document t names.StcoBox j = document_as any.StcoBox t.stco j
codec_document t names.Co64Box j = document_as any.Co64Box t.co64 j
codec_document t names.SttsBox j = document_as any.SttsBox t.stts j
codec_document t names.CttsBox j = document_as any.CttsBox t.ctts j
codec_document t names.StssBox j = document_as any.StssBox t.stss j
codec_document t names.StszBox j = document_as any.StszBox t.stsz j
codec_document t names.StscBox j = document_as any.StscBox t.stsc j
codec_document t names.ElstBox j = document_as any.ElstBox t.elst j
codec_document t names.TfhdBox j = document_as any.TfhdBox t.tfhd j
codec_document t names.TrunBox j = document_as any.TrunBox t.trun j
codec_document t names.HdlrBox j = document_as any.HdlrBox t.hdlr j
codec_document t names.DataBox j = document_as any.DataBox t.metadata j
codec_document t names.EmsgBox j = document_as any.EmsgBox t.emsg j
codec_document t names.UrlBox j = document_as any.UrlBox t.url j
codec_document t names.DrefBox j = document_as any.DrefBox t.dref j
codec_document t names.DinfBox j = document_as any.DinfBox t.dinf j
codec_document t names.AvcCBox j = document_as any.AvcCBox t.avcc j
codec_document t names.Avc1Box j = document_as any.Avc1Box t.avc1 j
codec_document t names.HvcCBox j = document_as any.HvcCBox t.hvcc j
codec_document t names.Hev1Box j = document_as any.Hev1Box t.hev1 j
codec_document t names.VpccBox j = document_as any.VpccBox t.vpcc j
codec_document t names.Vp09Box j = document_as any.Vp09Box t.vp09 j
codec_document t names.Tx3gBox j = document_as any.Tx3gBox t.tx3g j
codec_document t names.EsdsBox j = document_as any.EsdsBox t.esds j
codec_document t names.Mp4aBox j = document_as any.Mp4aBox t.mp4a j
codec_document t names.StsdBox j = document_as any.StsdBox t.stsd j
codec_document t _ j = Ok None
