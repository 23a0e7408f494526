-- The error of the last call of a reader or a writer that failed.
use Rattle.std.specs.Prelude.{◌≡◌, None, Some}
use Rattle.std.specs.IoError.{error_kind}
use Rattle.std.specs.declared.option.Option.{Option}
use Rattle.std.specs.declared.io.Error.{Error}
use Rattle.std.specs.declared.io.ErrorKind.TheVariants.{BrokenPipe}

-- the error is that of a write to a closed pipe
abbrev pub IsClosed : Option Error → Type 0
IsClosed None = ⊥
IsClosed (Some e) = error_kind e ≡ BrokenPipe
