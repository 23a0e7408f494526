-- Fixed-point numbers as decimals.
use Rattle.std.specs.Prelude.{ℕ, zero, suc, ◌+◌, ◌*◌, ◌/◌, ◌%◌, ◌^◌, ◌==◌, Bool, List, [], ◌∷◌, ◌++◌, if◌then◌else◌}
use Rattle.std.specs.Prelude.{min}
use Rattle.std.specs.Prelude.{decimal}
use Rattle.std.specs.Fmt.{sign_text}

-- the digits of rest / one after the point, at least one and at most k, and none after the last that is not 0
unfoldable pub fraction : ℕ → ℕ → ℕ → List ℕ
fraction zero rest one = []
fraction (suc k) rest one =
    (48 + rest * 10 / one) ∷ (if rest * 10 % one == 0 then [] else fraction k (rest * 10 % one) one)

-- at most 30 bits are after the point
abbrev pub one_of : ℕ → ℕ
one_of bits = 2 ^ min bits 30

-- n / 2 ^ bits, with a digit or more before and after the point
abbrev pub fixed_text : Bool → ℕ → ℕ → List ℕ
fixed_text negative n bits =
    sign_text negative
    ++ (decimal (n / one_of bits) ++ (46 ∷ fraction (suc (min bits 30)) (n % one_of bits) (one_of bits)))
