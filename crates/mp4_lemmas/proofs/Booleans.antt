-- Booleans: a proof by cases, and choices by conditions.
use Rattle.std.proofs.Common.{◌≡◌, ℕ, Bool, true, false, cond, ◌&&◌, refl, sym, ap}

-- a proof by cases, each of which has the value as its premise
pub by_bool : {P : Type 0} (b : Bool) → (b ≡ true → P) → (b ≡ false → P) → P
by_bool {P} b if_true if_false = (elim b as (λ c. b ≡ c → P) [ true ↦ if_true | false ↦ if_false ]) refl

-- the choice where the second of two conditions does not hold
pub guard_false : {A : Type 0} (a b : Bool) (x y : A) → b ≡ false → cond (a && b) x y ≡ y
guard_false true b x y e = ap (λ (c : Bool). cond c x y) e
guard_false false b x y e = refl

-- two choices between 0 and a number, by the same condition
pub same_number_or_zero : (b c : Bool) (m n : ℕ) → b ≡ c → (b ≡ false → m ≡ n) → cond b 0 m ≡ cond c 0 n
same_number_or_zero true c m n e f = rw (sym e) refl
same_number_or_zero false c m n e f = rw (sym e, f refl) refl
