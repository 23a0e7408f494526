-- A fault of a part is the fault of the whole.
use Rattle.std.proofs.Common.{◌≡◌, List, ℕ, Err, sym, ap, subst, ◌∙◌}
use Rattle.std.specs.Prelude.{string_bytes}
use Rattle.mp4_shown.specs.Taking.{Fault, IsRefusal, MovedInto, RefusedAs, Taking, in_path, within, ◌>>=◌}
use Rattle.mp4_shown.specs.declared.taken.error.Error.{Error}
use Rattle.mp4_shown.specs.declared.taken.error.Error.TheVariants as errors

-- the fault of the first part
pub refused_first : {A B : Type 0} (e : Error) (t : Taking A) (f : A → Taking B) → RefusedAs e t
    → RefusedAs e (t >>= f)
refused_first errors.OutOfMemory t f is = tt
refused_first {A} (errors.Refused refusal) t f is = ap (λ (u : Taking A). u >>= f) is

-- the fault of a refusal
pub refused_by : {A : Type 0} (e : Error) (fault : Fault) (t : Taking A) → IsRefusal e fault → t ≡ Err fault
    → RefusedAs e t
refused_by errors.OutOfMemory fault t is at = tt
refused_by (errors.Refused refusal) fault t is at = at ∙ ap (λ (f : Fault). Err f) (sym is)

-- a fault inside of a front
pub refused_within : {A : Type 0} (front : List ℕ) (e inside : Error) (t : Taking A) → RefusedAs inside t
    → MovedInto front inside e → RefusedAs e (within front t)
refused_within {A} front e errors.OutOfMemory t is moved =
    subst (λ (f : Error). RefusedAs f (within front t)) (sym moved) tt
refused_within {A} front e (errors.Refused refusal) t is moved =
    refused_by e (in_path front (string_bytes refusal.path), refusal.reason) (within front t) moved
    (ap (λ (u : Taking A). within front u) is)
