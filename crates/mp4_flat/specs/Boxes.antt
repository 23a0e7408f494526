-- The boxes of this crate: the reading, the format and the laws of each.
pub use Rattle.mp4_flat.specs.Mvhd.{reads_mvhd, format_mvhd}
pub use Rattle.mp4_flat.specs.Tkhd.{reads_tkhd, format_tkhd}
pub use Rattle.mp4_flat.specs.Mdhd.{reads_mdhd, format_mdhd}
pub use Rattle.mp4_flat.specs.Mehd.{reads_mehd, format_mehd}
pub use Rattle.mp4_flat.specs.Mfhd.{reads_mfhd, format_mfhd}
pub use Rattle.mp4_flat.specs.Smhd.{reads_smhd, format_smhd}
pub use Rattle.mp4_flat.specs.Vmhd.{reads_vmhd, format_vmhd}
pub use Rattle.mp4_flat.specs.Trex.{reads_trex, format_trex}
pub use Rattle.mp4_flat.specs.Tfdt.{reads_tfdt, format_tfdt}
pub use Rattle.mp4_flat.specs.MvhdLaws.{laws_mvhd}
pub use Rattle.mp4_flat.specs.TkhdLaws.{laws_tkhd}
pub use Rattle.mp4_flat.specs.MdhdLaws.{laws_mdhd}
pub use Rattle.mp4_flat.specs.MehdLaws.{laws_mehd}
pub use Rattle.mp4_flat.specs.MfhdLaws.{laws_mfhd}
pub use Rattle.mp4_flat.specs.SmhdLaws.{laws_smhd}
pub use Rattle.mp4_flat.specs.VmhdLaws.{laws_vmhd}
pub use Rattle.mp4_flat.specs.TrexLaws.{laws_trex}
pub use Rattle.mp4_flat.specs.TfdtLaws.{laws_tfdt}
