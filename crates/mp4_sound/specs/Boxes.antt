-- The boxes of this crate: their readings, formats and laws.
pub use Rattle.mp4_sound.specs.Esds.{reads_esds, format_esds}
pub use Rattle.mp4_sound.specs.Mp4a.{reads_mp4a, format_mp4a}
pub use Rattle.mp4_sound.specs.Stsd.{reads_stsd, format_stsd}
pub use Rattle.mp4_sound.specs.EsdsLaws.{laws_esds}
pub use Rattle.mp4_sound.specs.Mp4aLaws.{laws_mp4a}
pub use Rattle.mp4_sound.specs.StsdLaws.{laws_stsd}
