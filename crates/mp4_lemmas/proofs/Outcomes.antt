-- Options and results, and clauses about their values.
use Rattle.std.proofs.Common.{◌≡◌, ◌∙◌, ℕ, ◌++◌, false, List, Result, Ok, Err, None, Some, refl, sym, subst}
use Rattle.std.specs.Prelude.{IfSome, IfNone, IfOk, is_ok, is_err, if◌then◌else◌}
use Rattle.std.specs.Io.KnownBytes.{Consumes}
use Rattle.std.specs.declared.option.Option.{Option}
use Rattle.std.proofs.lemmas.Bool.{false≢true}

-- ---- options

-- a clause that follows from two others
pub both_known : {A : Type 0} (r s : Option A) {P Q R : A → Type 0} → s ≡ r → IfSome r P → IfSome s Q
    → ((x : A) → P x → Q x → R x) → IfSome r R
both_known None s e p q f = tt
both_known (Some x) s {P} {Q} {R} e p q f = f x p (subst (λ (t : Option _). IfSome t Q) e q)

-- a clause that holds of each value that the option may have
pub if_known : {A : Type 0} (r : Option A) (P : A → Type 0) → ((x : A) → r ≡ Some x → P x) → IfSome r P
if_known None P h = tt
if_known (Some x) P h = h x refl

pub always_known : {A : Type 0} (r : Option A) {P : A → Type 0} → ((x : A) → P x) → IfSome r P
always_known None f = tt
always_known (Some x) f = f x

-- the rest of a known input: the bytes after those that were read
pub known_rest : (a b : Option (List ℕ)) (B bs : List ℕ) → a ≡ Some B → Consumes a b bs
    → (rest : List ℕ) × (b ≡ Some rest) × (B ≡ bs ++ rest)
known_rest None b B bs e h = absurd cc
known_rest (Some xs) None B bs e h = absurd h
known_rest (Some xs) (Some ys) B bs e h = let same : xs ≡ B = cc in (ys, refl, sym same ∙ h)

pub IfNone_then : {X : Type 0} (r : Option X) {P Q : Type 0} → IfNone r P → (P → Q) → IfNone r Q
IfNone_then None p f = f p
IfNone_then (Some x) p f = tt

-- ---- results

-- a clause about one result holds of another, whose value, if any, is the value of the first
pub passed : {V E F : Type 0} (P : V → Type 0) (outcome : Result V E) (result : Result V F)
    → IfOk result (λ value. outcome ≡ Ok value) → IfOk outcome P → IfOk result P
passed P outcome (Err failure) same holds = tt
passed {E = E} P outcome (Ok value) same holds = subst (λ (r : Result _ E). IfOk r P) same holds

-- the list after a push that did not fail
pub pushed : {X A E : Type 0} (r : Result A E) (xs ys new : List X) → new ≡ (if is_ok r then xs else ys)
    → is_err r ≡ false → new ≡ xs
pushed (Ok a) xs ys new h done = h
pushed (Err e) xs ys new h done = absurd (false≢true (sym done))
