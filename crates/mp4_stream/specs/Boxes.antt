-- The boxes that AnyBox holds: their readings, formats and laws.
pub use Rattle.mp4_flat.specs.Boxes.{reads_mvhd, format_mvhd, reads_tkhd, format_tkhd, reads_mdhd, format_mdhd}
pub use Rattle.mp4_flat.specs.Boxes.{reads_mehd, format_mehd, reads_mfhd, format_mfhd, reads_smhd, format_smhd}
pub use Rattle.mp4_flat.specs.Boxes.{reads_vmhd, format_vmhd, reads_trex, format_trex, reads_tfdt, format_tfdt}
pub use Rattle.mp4_flat.specs.Boxes.{laws_mvhd, laws_tkhd, laws_mdhd, laws_mehd, laws_mfhd, laws_smhd, laws_vmhd}
pub use Rattle.mp4_flat.specs.Boxes.{laws_trex, laws_tfdt}
pub use Rattle.mp4_tables.specs.Boxes.{reads_stco, format_stco, reads_co64, format_co64, reads_stts, format_stts}
pub use Rattle.mp4_tables.specs.Boxes.{reads_ctts, format_ctts, reads_stss, format_stss, reads_stsz, format_stsz}
pub use Rattle.mp4_tables.specs.Boxes.{reads_stsc, format_stsc, reads_elst, format_elst, reads_tfhd, format_tfhd}
pub use Rattle.mp4_tables.specs.Boxes.{reads_trun, format_trun, laws_stco, laws_co64, laws_stts, laws_ctts, laws_stss}
pub use Rattle.mp4_tables.specs.Boxes.{laws_stsz, laws_stsc, laws_elst, laws_tfhd, laws_trun}
pub use Rattle.mp4_text.specs.Boxes.{reads_ftyp, format_ftyp, reads_hdlr, format_hdlr, reads_data, format_data}
pub use Rattle.mp4_text.specs.Boxes.{reads_emsg, format_emsg, reads_url, format_url, reads_dref, format_dref}
pub use Rattle.mp4_text.specs.Boxes.{reads_dinf, format_dinf, laws_ftyp, laws_hdlr, laws_data, laws_emsg, laws_url}
pub use Rattle.mp4_text.specs.Boxes.{laws_dref, laws_dinf}
pub use Rattle.mp4_entries.specs.Boxes.{reads_avcc, format_avcc, reads_avc1, format_avc1, reads_hvcc, format_hvcc}
pub use Rattle.mp4_entries.specs.Boxes.{reads_hev1, format_hev1, reads_vpcc, format_vpcc, reads_vp09, format_vp09}
pub use Rattle.mp4_entries.specs.Boxes.{reads_tx3g, format_tx3g, laws_avcc, laws_avc1, laws_hvcc, laws_hev1, laws_vpcc}
pub use Rattle.mp4_entries.specs.Boxes.{laws_vp09, laws_tx3g}
pub use Rattle.mp4_sound.specs.Boxes.{reads_esds, format_esds, reads_mp4a, format_mp4a, reads_stsd, format_stsd}
pub use Rattle.mp4_sound.specs.Boxes.{laws_esds, laws_mp4a, laws_stsd}
