-- Facts that follow from the outcome of a call.
use Rattle.std.proofs.Common.{◌≡◌, Result, Ok, Err, None, Some, refl, subst}
use Rattle.std.specs.Prelude.{IfOk, IfSome, OnOk}
use Rattle.std.specs.declared.option.Option.{Option}

-- The call did not fail.
pub on_ok : {A E : Type 0} (r : Result A E) {P Q : Type 0} → OnOk r P → (P → Q) → OnOk r Q
on_ok (Ok a) p f = f p
on_ok (Err e) p f = tt

pub if_ok : {A E : Type 0} (r : Result A E) {P Q : A → Type 0} → IfOk r P → ((a : A) → P a → Q a) → IfOk r Q
if_ok (Ok a) p f = f a p
if_ok (Err e) p f = tt

-- The bytes of the file are known.
pub if_some : {A : Type 0} (o : Option A) {P Q : A → Type 0} → IfSome o P → ((a : A) → P a → Q a) → IfSome o Q
if_some None p f = tt
if_some (Some a) p f = f a p

pub if_both : {A : Type 0} (o : Option A) {P Q R : A → Type 0} → IfSome o P → IfSome o Q
    → ((a : A) → P a → Q a → R a) → IfSome o R
if_both None p q f = tt
if_both (Some a) p q f = f a p q

-- A property of each value that the option has.
pub if_is : {A : Type 0} (o : Option A) {P : A → Type 0} → ((a : A) → o ≡ Some a → P a) → IfSome o P
if_is None f = tt
if_is (Some a) f = f a refl

pub some_at : {A : Type 0} (o : Option A) (a : A) (P : A → Type 0) → o ≡ Some a → IfSome o P → P a
some_at None a P is h = absurd cc
some_at (Some b) a P is h = let same : b ≡ a = cc in subst P same h

pub always_ok : {A E : Type 0} (r : Result A E) {P : Type 0} → P → OnOk r P
always_ok (Ok a) p = p
always_ok (Err e) p = tt

-- A call passed on the value of another.
pub passed_on : {A E F : Type 0} (outcome : Result A E) (r : Result A F) {P Q : A → Type 0}
    → IfOk r (λ a. outcome ≡ Ok a) → IfOk outcome P → ((a : A) → P a → Q a) → IfOk r Q
passed_on outcome (Err e) same p f = tt
passed_on {E = E} outcome (Ok a) {P} same p f = f a (subst (λ (s : Result _ E). IfOk s P) same p)

pub passed_ok : {A E F : Type 0} (outcome : Result A E) (r : Result A F) (P : Type 0)
    → IfOk r (λ a. outcome ≡ Ok a) → OnOk outcome P → OnOk r P
passed_ok outcome (Err e) P same p = tt
passed_ok {E = E} outcome (Ok a) P same p = subst (λ (s : Result _ E). OnOk s P) same p
