use Rattle.std.proofs.Common.{◌≡◌, Some, None, Result, Ok, Err}
use Rattle.std.specs.Prelude.{IsErrAnd}
use Rattle.mp4_frame.specs.declared.error.Error.{Error}
use Rattle.mp4_frame.specs.declared.error.Error.TheVariants as errors
use Rattle.mp4_media.specs.Conversion.{IsConversion, IsInvalidData}
use Rattle.mp4_media.proofs.laws.conversions_return_what_they_find.Goals as goal

value : {A : Type 0} (v : A) (r : Result A Error) → IsConversion (Some v) r → r ≡ Ok v
value v (Ok w) h = cc
value v (Err (errors.InvalidData _)) h = cc
value v (Err _) h = absurd h

none : {A : Type 0} (r : Result A Error) → IsConversion None r → IsErrAnd r IsInvalidData
none (Ok w) h = cc
none (Err (errors.InvalidData _)) h = tt
none (Err _) h = absurd h

pub returns : goal.returns
returns g c = record { value = value; none = none }
