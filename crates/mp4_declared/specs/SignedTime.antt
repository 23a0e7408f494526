-- A signed number of 32 bits in version 0, and of 64 bits in later versions.
use Rattle.std.specs.Prelude.{ℤ}
use Rattle.std.specs.Int.{w32, w64}
use Rattle.mp4_declared.specs.OptionalShapes.{signed_shape}
use Rattle.mp4_declared.specs.Shape.{Shape}
use Rattle.mp4_declared.specs.ByVersion.{by_version_shape}

abbrev pub signed_time_shape : Shape ℤ
signed_time_shape = by_version_shape (signed_shape w32 4) (signed_shape w64 8)
