-- The boxes of this crate: their readings, formats and laws.
pub use Rattle.mp4_entries.specs.Avcc.{reads_avcc, format_avcc}
pub use Rattle.mp4_entries.specs.Avc1.{reads_avc1, format_avc1}
pub use Rattle.mp4_entries.specs.Hvcc.{reads_hvcc, format_hvcc}
pub use Rattle.mp4_entries.specs.Hev1.{reads_hev1, format_hev1}
pub use Rattle.mp4_entries.specs.Vpcc.{reads_vpcc, format_vpcc}
pub use Rattle.mp4_entries.specs.Vp09.{reads_vp09, format_vp09}
pub use Rattle.mp4_entries.specs.Tx3g.{reads_tx3g, format_tx3g}
pub use Rattle.mp4_entries.specs.AvccLaws.{laws_avcc}
pub use Rattle.mp4_entries.specs.Avc1Laws.{laws_avc1}
pub use Rattle.mp4_entries.specs.HvccLaws.{laws_hvcc}
pub use Rattle.mp4_entries.specs.Hev1Laws.{laws_hev1}
pub use Rattle.mp4_entries.specs.VpccLaws.{laws_vpcc}
pub use Rattle.mp4_entries.specs.Vp09Laws.{laws_vp09}
pub use Rattle.mp4_entries.specs.Tx3gLaws.{laws_tx3g}
