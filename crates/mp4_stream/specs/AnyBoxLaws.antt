-- The laws of a box of any type follow from the laws of its type.
use Rattle.std.proofs.Common.{refl}
use Rattle.mp4_frame.specs.MemberLaws.{IsMember, member}
use Rattle.mp4_flat.specs.Boxes.{laws_mvhd, laws_tkhd, laws_mdhd, laws_mehd, laws_mfhd, laws_smhd, laws_vmhd, laws_trex}
use Rattle.mp4_flat.specs.Boxes.{laws_tfdt}
use Rattle.mp4_tables.specs.Boxes.{laws_stco, laws_co64, laws_stts, laws_ctts, laws_stss, laws_stsz, laws_stsc}
use Rattle.mp4_tables.specs.Boxes.{laws_elst, laws_tfhd, laws_trun}
use Rattle.mp4_text.specs.Boxes.{laws_ftyp, laws_hdlr, laws_data, laws_emsg, laws_url, laws_dref, laws_dinf}
use Rattle.mp4_entries.specs.Boxes.{laws_avcc, laws_avc1, laws_hvcc, laws_hev1, laws_vpcc, laws_vp09, laws_tx3g}
use Rattle.mp4_sound.specs.Boxes.{laws_esds, laws_mp4a, laws_stsd}
use Rattle.mp4_stream.specs.AnyBox.{kinds, held}
use Rattle.mp4_stream.specs.declared.any_box.AnyBox.{AnyBox}
use Rattle.mp4_stream.specs.declared.any_box.AnyBox.TheVariants as any

pub members : (v : AnyBox) → IsMember kinds held v
members (any.FtypBox b) = member kinds held any.FtypBox laws_ftyp (λ _. refl) (λ _. refl) (λ _. refl) b
members (any.MvhdBox b) = member kinds held any.MvhdBox laws_mvhd (λ _. refl) (λ _. refl) (λ _. refl) b
members (any.TkhdBox b) = member kinds held any.TkhdBox laws_tkhd (λ _. refl) (λ _. refl) (λ _. refl) b
members (any.MdhdBox b) = member kinds held any.MdhdBox laws_mdhd (λ _. refl) (λ _. refl) (λ _. refl) b
members (any.MehdBox b) = member kinds held any.MehdBox laws_mehd (λ _. refl) (λ _. refl) (λ _. refl) b
members (any.MfhdBox b) = member kinds held any.MfhdBox laws_mfhd (λ _. refl) (λ _. refl) (λ _. refl) b
members (any.SmhdBox b) = member kinds held any.SmhdBox laws_smhd (λ _. refl) (λ _. refl) (λ _. refl) b
members (any.VmhdBox b) = member kinds held any.VmhdBox laws_vmhd (λ _. refl) (λ _. refl) (λ _. refl) b
members (any.TrexBox b) = member kinds held any.TrexBox laws_trex (λ _. refl) (λ _. refl) (λ _. refl) b
members (any.TfdtBox b) = member kinds held any.TfdtBox laws_tfdt (λ _. refl) (λ _. refl) (λ _. refl) b
members (any.StcoBox b) = member kinds held any.StcoBox laws_stco (λ _. refl) (λ _. refl) (λ _. refl) b
members (any.Co64Box b) = member kinds held any.Co64Box laws_co64 (λ _. refl) (λ _. refl) (λ _. refl) b
members (any.SttsBox b) = member kinds held any.SttsBox laws_stts (λ _. refl) (λ _. refl) (λ _. refl) b
members (any.CttsBox b) = member kinds held any.CttsBox laws_ctts (λ _. refl) (λ _. refl) (λ _. refl) b
members (any.StssBox b) = member kinds held any.StssBox laws_stss (λ _. refl) (λ _. refl) (λ _. refl) b
members (any.StszBox b) = member kinds held any.StszBox laws_stsz (λ _. refl) (λ _. refl) (λ _. refl) b
members (any.StscBox b) = member kinds held any.StscBox laws_stsc (λ _. refl) (λ _. refl) (λ _. refl) b
members (any.ElstBox b) = member kinds held any.ElstBox laws_elst (λ _. refl) (λ _. refl) (λ _. refl) b
members (any.TfhdBox b) = member kinds held any.TfhdBox laws_tfhd (λ _. refl) (λ _. refl) (λ _. refl) b
members (any.TrunBox b) = member kinds held any.TrunBox laws_trun (λ _. refl) (λ _. refl) (λ _. refl) b
members (any.HdlrBox b) = member kinds held any.HdlrBox laws_hdlr (λ _. refl) (λ _. refl) (λ _. refl) b
members (any.DataBox b) = member kinds held any.DataBox laws_data (λ _. refl) (λ _. refl) (λ _. refl) b
members (any.EmsgBox b) = member kinds held any.EmsgBox laws_emsg (λ _. refl) (λ _. refl) (λ _. refl) b
members (any.UrlBox b) = member kinds held any.UrlBox laws_url (λ _. refl) (λ _. refl) (λ _. refl) b
members (any.DrefBox b) = member kinds held any.DrefBox laws_dref (λ _. refl) (λ _. refl) (λ _. refl) b
members (any.DinfBox b) = member kinds held any.DinfBox laws_dinf (λ _. refl) (λ _. refl) (λ _. refl) b
members (any.AvcCBox b) = member kinds held any.AvcCBox laws_avcc (λ _. refl) (λ _. refl) (λ _. refl) b
members (any.Avc1Box b) = member kinds held any.Avc1Box laws_avc1 (λ _. refl) (λ _. refl) (λ _. refl) b
members (any.HvcCBox b) = member kinds held any.HvcCBox laws_hvcc (λ _. refl) (λ _. refl) (λ _. refl) b
members (any.Hev1Box b) = member kinds held any.Hev1Box laws_hev1 (λ _. refl) (λ _. refl) (λ _. refl) b
members (any.VpccBox b) = member kinds held any.VpccBox laws_vpcc (λ _. refl) (λ _. refl) (λ _. refl) b
members (any.Vp09Box b) = member kinds held any.Vp09Box laws_vp09 (λ _. refl) (λ _. refl) (λ _. refl) b
members (any.Tx3gBox b) = member kinds held any.Tx3gBox laws_tx3g (λ _. refl) (λ _. refl) (λ _. refl) b
members (any.EsdsBox b) = member kinds held any.EsdsBox laws_esds (λ _. refl) (λ _. refl) (λ _. refl) b
members (any.Mp4aBox b) = member kinds held any.Mp4aBox laws_mp4a (λ _. refl) (λ _. refl) (λ _. refl) b
members (any.StsdBox b) = member kinds held any.StsdBox laws_stsd (λ _. refl) (λ _. refl) (λ _. refl) b
