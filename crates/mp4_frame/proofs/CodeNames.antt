-- Codes of four bytes, as bytes and as numbers.
use Rattle.std.proofs.Common.{◌≡◌, ℕ, zero, suc, ◌<◌, ◌^◌, List, [], ◌∷◌, length, ap, arith}
use Rattle.std.specs.Int.{w32, from_be_bytes}
use Rattle.std.proofs.lemmas.Nat.{be_bytes_4}
use Rattle.mp4_frame.specs.Bytes.{number, be_bytes}
use Rattle.mp4_frame.specs.FourCC.{four_cc_of, number_of, IsFourCC}
use Rattle.mp4_frame.specs.Laws.{AreBytes}
use Rattle.mp4_frame.specs.declared.four_cc.FourCC.{FourCC}
use Rattle.mp4_frame.proofs.Fields.{length-be_bytes, number-below}

number_of_four : (bytes : List ℕ) → length bytes ≡ 4 → number bytes 0 4 ≡ from_be_bytes w32 bytes
unfolding number
number_of_four [] long = absurd (omega (arith, long))
number_of_four (a ∷ []) long = absurd (omega (arith, long))
number_of_four (a ∷ b ∷ []) long = absurd (omega (arith, long))
number_of_four (a ∷ b ∷ c ∷ []) long = absurd (omega (arith, long))
number_of_four (a ∷ b ∷ c ∷ d ∷ []) long = omega arith
number_of_four (a ∷ b ∷ c ∷ d ∷ e ∷ rest) long = absurd (omega (arith, long))

-- the code of a code's number is that code
pub four_cc_back : (c : FourCC) → IsFourCC c → four_cc_of (number_of c) ≡ c
unfolding be_bytes
four_cc_back c is = ap (λ (bytes : List ℕ). record { value = bytes })
    (be_bytes_4 c.value (number_of c) is.long is.are (number_of_four c.value is.long))

are_bytes : (n : ℕ) → AreBytes (be_bytes 4 n)
unfolding be_bytes
are_bytes n zero = omega arith
are_bytes n (suc zero) = omega arith
are_bytes n (suc (suc zero)) = omega arith
are_bytes n (suc (suc (suc zero))) = omega arith
are_bytes n (suc (suc (suc (suc i)))) = omega arith

-- the code of every number is a code
pub four_cc_is : (n : ℕ) → IsFourCC (four_cc_of n)
four_cc_is n = record { long = length-be_bytes 4 n; are = are_bytes n }

-- the number of a code fits four bytes
pub small_code : (c : FourCC) → IsFourCC c → number_of c < 2 ^ 32
small_code c is = number-below c.value 0 4 is.are
