-- Conversions that look up a value by its number, code or string, and their results.
use Rattle.std.specs.Prelude.{◌≡◌, ◌≢◌, ◌↔◌, ℕ, Bool, true, false, ◌==◌, List, Option, Some, None, Result, Ok, Err}
use Rattle.std.specs.List.{find}
use Rattle.std.specs.Str.{bytes_eq}
use Rattle.mp4_frame.specs.declared.error.Error.{Error}
use Rattle.mp4_frame.specs.declared.error.Error.TheVariants as errors

-- the only error of a conversion
abbrev pub IsInvalidData : Error → Type 0
IsInvalidData (errors.InvalidData _) = Unit {0}
IsInvalidData _ = ⊥

-- the result: the value that was found, or invalid data if there is none
abbrev pub IsConversion : {A : Type 0} → Option A → Result A Error → Type 0
IsConversion found (Ok v) = found ≡ Some v
IsConversion found (Err (errors.InvalidData _)) = found ≡ None
IsConversion found (Err _) = ⊥

-- the first of these values that has this number
abbrev pub by_number : {A : Type 0} → (A → ℕ) → List A → ℕ → Option A
by_number number values n = find (λ v. n == number v) values

-- the first of these values that has this string
abbrev pub by_text : {A : Type 0} → (A → List ℕ) → List A → List ℕ → Option A
by_text text values t = find (λ v. bytes_eq t (text v)) values

-- each value is found by its key (a number, code or string), and by no other key; nothing is found by a key that no
-- value has
pub record IsInverse {A K : Type 0} (key : A → K) (found : K → Option A) : Type 0 where
  pub own : (v : A) → found (key v) ≡ Some v
  pub only : (k : K) (v : A) → found k ≡ Some v → key v ≡ k
  pub others : (k : K) → (found k ≡ None) ↔ ((v : A) → key v ≢ k)

-- a value that has the key is the value found; a value that is found has the key; nothing is found if and only if no
-- value has the key
pub record Selects {A K : Type 0} (has : A → K → Bool) (found : K → Option A) : Type 0 where
  pub own : (k : K) (v : A) → has v k ≡ true → found k ≡ Some v
  pub only : (k : K) (v : A) → found k ≡ Some v → has v k ≡ true
  pub others : (k : K) → (found k ≡ None) ↔ ((v : A) → has v k ≡ false)
