-- The bytes of a number with a sign: its last two bytes are those of its 16 bits.
use Rattle.std.proofs.Common.{◌≡◌, ℕ, suc, ◌+◌, ◌-◌, ◌*◌, ◌/◌, ◌%◌, ◌<◌, ◌^◌, List, [], ◌∷◌, Ok, refl, sym, ap, ◌∙◌}
use Rattle.std.proofs.Common.{arith}
use Rattle.std.specs.Prelude.{ℤ, pos, negsuc, ◌≤ℤ◌}
use Rattle.std.specs.Int.{w16, w64, bytes_high_first, cast_unsigned}
use Rattle.std.proofs.lemmas.Int.{ints}
use Rattle.json.specs.Json.{Members}
use Rattle.mp4_frame.specs.Bytes.{be_bytes}
use Rattle.mp4_shown.specs.TakenShapes.{map_taken}
use Rattle.mp4_shown.specs.Taking.{Taking}

low_byte : (k m : ℕ) → (k * 65536 + m) % 256 ≡ m % 256
low_byte k m = omega arith

next_byte : (k m : ℕ) → (k * 65536 + m) / 256 % 256 ≡ m / 256 % 256
next_byte k m = omega arith

low_bytes : (k m : ℕ) → bytes_high_first 2 (k * 65536 + m) ≡ bytes_high_first 2 m
low_bytes k m =
    ap (λ (b : ℕ). b ∷ (k * 65536 + m) % 256 ∷ []) (next_byte k m)
    ∙ ap (λ (b : ℕ). m / 256 % 256 ∷ b ∷ []) (low_byte k m)

two_bytes : (z : ℤ) → negsuc (2 ^ 15 - 1) ≤ℤ z → be_bytes 2 (cast_unsigned w64 z) ≡ be_bytes 2 (cast_unsigned w16 z)
unfolding be_bytes
two_bytes (pos n) least = refl
two_bytes (negsuc n) least =
    let small : n < 32768 = omega (arith, ints, least) in
    let long : 2 ^ 64 - suc n ≡ (2 ^ 48 - 1) * 65536 + (2 ^ 16 - suc n) = omega (arith, small) in
    ap (bytes_high_first 2) long ∙ low_bytes (2 ^ 48 - 1) (2 ^ 16 - suc n)

pub roll_bytes : (t : Taking (ℤ × Members)) (z : ℤ) (rest : Members) (bytes : List ℕ) → t ≡ Ok (z, rest)
    → negsuc (2 ^ 15 - 1) ≤ℤ z → bytes ≡ be_bytes 2 (cast_unsigned w64 z)
    → map_taken (λ y. be_bytes 2 (cast_unsigned w16 y)) t ≡ Ok (bytes, rest)
roll_bytes t z rest bytes taken least are =
    ap (λ (u : Taking (ℤ × Members)). map_taken (λ y. be_bytes 2 (cast_unsigned w16 y)) u) taken
    ∙ ap (λ (l : List ℕ). Ok (l, rest)) (sym (two_bytes z least) ∙ sym are)
