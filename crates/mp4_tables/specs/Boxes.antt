-- The boxes of this crate: the reading, the format and the laws of each.
pub use Rattle.mp4_tables.specs.Stco.{reads_stco, format_stco}
pub use Rattle.mp4_tables.specs.Co64.{reads_co64, format_co64}
pub use Rattle.mp4_tables.specs.Stts.{reads_stts, format_stts}
pub use Rattle.mp4_tables.specs.Ctts.{reads_ctts, format_ctts}
pub use Rattle.mp4_tables.specs.Stss.{reads_stss, format_stss}
pub use Rattle.mp4_tables.specs.Stsz.{reads_stsz, format_stsz}
pub use Rattle.mp4_tables.specs.Stsc.{reads_stsc, format_stsc}
pub use Rattle.mp4_tables.specs.Elst.{reads_elst, format_elst}
pub use Rattle.mp4_tables.specs.Tfhd.{reads_tfhd, format_tfhd}
pub use Rattle.mp4_tables.specs.Trun.{reads_trun, format_trun}
pub use Rattle.mp4_tables.specs.StcoLaws.{laws_stco}
pub use Rattle.mp4_tables.specs.Co64Laws.{laws_co64}
pub use Rattle.mp4_tables.specs.SttsLaws.{laws_stts}
pub use Rattle.mp4_tables.specs.CttsLaws.{laws_ctts}
pub use Rattle.mp4_tables.specs.StssLaws.{laws_stss}
pub use Rattle.mp4_tables.specs.StszLaws.{laws_stsz}
pub use Rattle.mp4_tables.specs.StscLaws.{laws_stsc}
pub use Rattle.mp4_tables.specs.ElstLaws.{laws_elst}
pub use Rattle.mp4_tables.specs.TfhdLaws.{laws_tfhd}
pub use Rattle.mp4_tables.specs.TrunLaws.{laws_trun}
