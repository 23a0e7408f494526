-- The flags of a track header, with their bits (ISO/IEC 14496-12, 8.3.2.3).
use Rattle.std.specs.Prelude.{ℕ}
use Rattle.mp4_flat.specs.declared.track_flag.TrackFlag.{TrackFlag}
use Rattle.mp4_flat.specs.declared.track_flag.TrackFlag.TheVariants as flags

abbrev pub number_track_flag : TrackFlag → ℕ
number_track_flag flags.TrackEnabled = 1
