-- The taking of a part of a box out of JSON: its value, or the path of the first member that is refused, and why.
use Rattle.std.specs.Prelude.{◌≡◌, ℕ, ◌==◌, List, [], ◌∷◌, ◌++◌, Bool, if◌then◌else◌, Result, Ok, Err, length, decimal}
use Rattle.std.specs.Prelude.{string_bytes}
use Rattle.mp4_shown.specs.declared.taken.error.Error.{Error}
use Rattle.mp4_shown.specs.declared.taken.error.Error.TheVariants as errors
use Rattle.mp4_shown.specs.declared.taken.error.Reason.{Reason}

-- the path of a member, and why it is refused
abbrev pub Fault : Type 0
Fault = List ℕ × Reason

abbrev pub Taking : Type 0 → Type 0
Taking A = Result A Fault

abbrev pub refused : {A : Type 0} → List ℕ → Reason → Taking A
refused path reason = Err (path, reason)

infixl 10 ◌>>=◌
abbrev pub ◌>>=◌ : {A B : Type 0} → Taking A → (A → Taking B) → Taking B
Ok v >>= f = f v
Err fault >>= f = Err fault

-- a check of a condition
abbrev pub expect : Bool → List ℕ → Reason → Taking (Unit {0})
expect b path reason = if b then Ok tt else refused path reason

-- a path inside of a front, after a point unless it is empty
abbrev pub in_path : List ℕ → List ℕ → List ℕ
in_path front path = if length path == 0 then front else front ++ (46 ∷ path)

-- the path of an entry: its list, and its index in brackets
abbrev pub entry_path : List ℕ → ℕ → List ℕ
entry_path name i = name ++ (91 ∷ (decimal i ++ 93 ∷ []))

-- what is taken inside of a front
abbrev pub within : {A : Type 0} → List ℕ → Taking A → Taking A
within front (Ok v) = Ok v
within front (Err fault) = Err (in_path front fault.0, fault.1)

-- the error of a fault; memory may be refused instead
abbrev pub IsRefusal : Error → Fault → Type 0
IsRefusal errors.OutOfMemory fault = Unit {0}
IsRefusal (errors.Refused refusal) fault = (string_bytes refusal.path, refusal.reason) ≡ fault

-- an error, and the same one inside of a front; memory may be refused for the longer path
abbrev pub MovedInto : List ℕ → Error → Error → Type 0
MovedInto front errors.OutOfMemory e = e ≡ errors.OutOfMemory
MovedInto front (errors.Refused refusal) e = IsRefusal e (in_path front (string_bytes refusal.path), refusal.reason)

abbrev pub RefusedAs : {A : Type 0} → Error → Taking A → Type 0
RefusedAs errors.OutOfMemory taking = Unit {0}
RefusedAs (errors.Refused refusal) taking = taking ≡ Err (string_bytes refusal.path, refusal.reason)

-- the result of a call that takes this: the value, or the fault; memory may be refused instead
abbrev pub TakesAs : {A C : Type 0} → (A → C) → Result A Error → Taking C → Type 0
TakesAs view (Ok v) taking = taking ≡ Ok (view v)
TakesAs view (Err error) taking = RefusedAs error taking
