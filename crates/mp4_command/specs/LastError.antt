-- The error of the last failed call.
use Rattle.std.specs.Prelude.{Ok, Err, Some}
use Rattle.std.specs.declared.io.Error.{Error}
use Rattle.std.specs.declared.option.Option.{Option}
use Rattle.std.specs.declared.result.Result.{Result}

-- the error after one more call: the call's own error, if the call fails
abbrev pub last_error : {A : Type 0} → Option Error → Result A Error → Option Error
last_error before (Ok _) = before
last_error before (Err error) = Some error
