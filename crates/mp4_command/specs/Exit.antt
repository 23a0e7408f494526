-- The exit status of a command line that names no file.
use Rattle.std.specs.Prelude.{ℕ}
use Rattle.clap.specs.declared.error.kind.ErrorKind.{ErrorKind}
use Rattle.clap.specs.declared.error.kind.ErrorKind.TheVariants as kinds

-- 0 for the help and the version, and 2 for a misuse
abbrev pub status_of : ErrorKind → ℕ
status_of kinds.DisplayHelp = 0
status_of kinds.DisplayVersion = 0
status_of _ = 2
