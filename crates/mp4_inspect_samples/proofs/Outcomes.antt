-- Facts that follow from the result of a call.
use Rattle.std.proofs.Common.{◌≡◌, Result, Ok, Err, None, Some, refl, subst}
use Rattle.std.specs.Prelude.{IfOk, IfSome, OnOk}
use Rattle.std.specs.declared.option.Option.{Option}

-- The call did not fail.
pub on_ok : {A E : Type 0} (r : Result A E) {P Q : Type 0} → OnOk r P → (P → Q) → OnOk r Q
on_ok (Ok a) p f = f p
on_ok (Err e) p f = tt

pub if_ok : {A E : Type 0} (r : Result A E) {P Q : A → Type 0} → IfOk r P → ((a : A) → P a → Q a) → IfOk r Q
if_ok (Ok a) p f = f a p
if_ok (Err e) p f = tt

pub always_ok : {A E : Type 0} (r : Result A E) {P : Type 0} → P → OnOk r P
always_ok (Ok a) p = p
always_ok (Err e) p = tt

-- The property holds of each value that the option has.
pub if_is : {A : Type 0} (o : Option A) {P : A → Type 0} → ((a : A) → o ≡ Some a → P a) → IfSome o P
if_is None f = tt
if_is (Some a) f = f a refl

pub some_at : {A : Type 0} (o : Option A) (a : A) (P : A → Type 0) → o ≡ Some a → IfSome o P → P a
some_at None a P is h = absurd cc
some_at (Some b) a P is h = let same : b ≡ a = cc in subst P same h
