-- The boxes of this crate: the reading, the format and the laws of each.
pub use Rattle.mp4_text.specs.Ftyp.{reads_ftyp, format_ftyp}
pub use Rattle.mp4_text.specs.Hdlr.{reads_hdlr, format_hdlr}
pub use Rattle.mp4_text.specs.Data.{reads_data, format_data}
pub use Rattle.mp4_text.specs.Emsg.{reads_emsg, format_emsg}
pub use Rattle.mp4_text.specs.Url.{reads_url, format_url}
pub use Rattle.mp4_text.specs.Dref.{reads_dref, format_dref}
pub use Rattle.mp4_text.specs.Dinf.{reads_dinf, format_dinf}
pub use Rattle.mp4_text.specs.FtypLaws.{laws_ftyp}
pub use Rattle.mp4_text.specs.HdlrLaws.{laws_hdlr}
pub use Rattle.mp4_text.specs.DataLaws.{laws_data}
pub use Rattle.mp4_text.specs.EmsgLaws.{laws_emsg}
pub use Rattle.mp4_text.specs.UrlLaws.{laws_url}
pub use Rattle.mp4_text.specs.DrefLaws.{laws_dref}
pub use Rattle.mp4_text.specs.DinfLaws.{laws_dinf}
