-- The index of the first zero byte.
use Rattle.std.proofs.Common.{◌≡◌, ℕ, ◌≤◌, Bool, true, false, cond, ltb, List, length, Some, None, refl, arith}
use Rattle.std.proofs.lemmas.Bool.{ltb-false}
use Rattle.std.proofs.lemmas.List.Sums.{prefix_len-le-length}
use Rattle.std.specs.Prelude.{unwrap_or, position, not}
use Rattle.std.specs.List.{position_or_len}
use Rattle.mp4_text.specs.Terminated.{is_zero}

by : (xs : List ℕ) (b : Bool) → ltb (position_or_len is_zero xs) (length xs) ≡ b
    → unwrap_or (cond b (Some (position_or_len is_zero xs)) None) (length xs) ≡ position_or_len is_zero xs
by xs true e = refl
by xs false e = omega
    (arith, ltb-false (position_or_len is_zero xs) (length xs) e, prefix_len-le-length (λ x. not (is_zero x)) xs)

-- the index of the first zero byte, or the length if there is none
pub offset_or_length : (xs : List ℕ) → unwrap_or (position is_zero xs) (length xs) ≡ position_or_len is_zero xs
offset_or_length xs = by xs (ltb (position_or_len is_zero xs) (length xs)) refl

pub offset_within : (xs : List ℕ) → position_or_len is_zero xs ≤ length xs
offset_within xs = prefix_len-le-length (λ x. not (is_zero x)) xs
