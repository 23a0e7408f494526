-- The status of an error: its position among the variants of Error, counted from 1.
use Rattle.std.specs.Prelude.{ℕ}
use Rattle.mp4_frame.specs.declared.error.Error.{Error}
use Rattle.mp4_frame.specs.declared.error.Error.TheVariants as errors

abbrev pub status_of : Error → ℕ
status_of errors.IoError = 1
status_of (errors.InvalidData _) = 2
status_of (errors.BoxNotFound _) = 3
status_of (errors.Box2NotFound _ _) = 4
status_of (errors.TrakNotFound _) = 5
status_of (errors.BoxInTrakNotFound _ _) = 6
status_of (errors.BoxInTrafNotFound _ _) = 7
status_of (errors.BoxInStblNotFound _ _) = 8
status_of (errors.EntryInStblNotFound _ _ _) = 9
status_of (errors.EntryInTrunNotFound _ _ _) = 10
status_of (errors.UnsupportedBoxVersion _ _) = 11
status_of errors.OutOfMemory = 12
