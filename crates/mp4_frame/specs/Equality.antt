-- Checks that decide a relation or equality.
use Rattle.std.specs.Prelude.{◌≡◌, ◌↔◌, Bool, true}

-- the check is true if and only if the relation holds
abbrev pub Decides : {A : Type 0} → (A → A → Bool) → (A → A → Type 0) → Type 0
Decides {A} check R = (x y : A) → (check x y ≡ true) ↔ R x y

-- the check is true if and only if the values are equal
abbrev pub IsEquality : {A : Type 0} → (A → A → Bool) → Type 0
IsEquality check = Decides check (λ x y. x ≡ y)
