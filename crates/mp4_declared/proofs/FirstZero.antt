-- The first byte of 0, in all bytes or in the first few of them.
use Rattle.std.proofs.Common.{◌≡◌, ℕ, zero, suc, ◌+◌, ◌≤◌, Bool, true, false, cond, ltb, List, [], ◌∷◌, length, take}
use Rattle.std.proofs.Common.{Some, None, refl, arith}
use Rattle.std.proofs.lemmas.Bool.{ltb-false}
use Rattle.std.proofs.lemmas.List.Sums.{prefix_len-le-length}
use Rattle.std.specs.Prelude.{unwrap_or, position, not, min}
use Rattle.std.specs.List.{position_or_len}
use Rattle.mp4_declared.specs.Strings.{is_zero}

by : (xs : List ℕ) (b : Bool) → ltb (position_or_len is_zero xs) (length xs) ≡ b
    → unwrap_or (cond b (Some (position_or_len is_zero xs)) None) (length xs) ≡ position_or_len is_zero xs
by xs true e = refl
by xs false e = omega
    (arith, ltb-false (position_or_len is_zero xs) (length xs) e, prefix_len-le-length (λ x. not (is_zero x)) xs)

-- the index of the first byte of 0, or the length if there is none
pub first_or_all : (xs : List ℕ) → unwrap_or (position is_zero xs) (length xs) ≡ position_or_len is_zero xs
first_or_all xs = by xs (ltb (position_or_len is_zero xs) (length xs)) refl

within_by : (z : Bool) (a b r : ℕ) → a ≡ min b r → cond z (1 + a) 0 ≡ min (cond z (1 + b) 0) (suc r)
within_by true a b r is = omega (arith, is)
within_by false a b r is = omega arith

-- Among the first r bytes it is at the same index, or there is none.
pub first_within : (r : ℕ) (xs : List ℕ)
    → position_or_len is_zero (take r xs) ≡ min (position_or_len is_zero xs) r
first_within zero xs = omega arith
first_within (suc r) [] = omega arith
first_within (suc r) (b ∷ xs) =
    within_by (not (is_zero b)) (position_or_len is_zero (take r xs)) (position_or_len is_zero xs) r (first_within r xs)

-- Its index is at most the length.
pub first_inside : (xs : List ℕ) → position_or_len is_zero xs ≤ length xs
first_inside xs = prefix_len-le-length (λ x. not (is_zero x)) xs
