-- A number comes back from the digits of its last bytes.
use Rattle.std.proofs.Common.{◌≡◌, ℕ, zero, suc, ◌-◌, ◌*◌, ◌^◌, ◌<◌, ◌≤◌, List, [], length, min, drop}
use Rattle.std.proofs.Common.{Ok, Result, append-nil, sym, ap, ◌∙◌, arith}
use Rattle.std.proofs.Math.Nat.{pow-le-pow_right}
use Rattle.std.specs.Int.{byte_at, bytes_high_first, to_be_bytes, w64}
use Rattle.byteorder.proofs.Bytes.{drop-bytes_high_first, pow256}
use Rattle.hex.proofs.HexLemmas.{decode_sized-encode_lower}
use Rattle.hex.specs.Hex.{IsBytes, decode_sized, encode_lower}
use Rattle.hex.specs.declared.error.FromHexError.{FromHexError}
use Rattle.json.specs.Json as json
use Rattle.mp4_lemmas.proofs.Numbers.{byte_is}
use Rattle.mp4_frame.proofs.Fields.{length-be_bytes, number-be_bytes}
use Rattle.mp4_frame.specs.Bytes.{be_bytes, number}
use Rattle.mp4_shown.specs.TakenValues.{as_one, decoded_sized, number_in_hex}
use Rattle.mp4_shown_json.specs.Tokens.{last_bytes}

byte_below : (k n : ℕ) → byte_at k n < 256
byte_below k n = omega (arith, byte_is k n)

are_bytes : (w n : ℕ) → IsBytes (bytes_high_first w n)
are_bytes zero n i = omega arith
are_bytes (suc w) n zero = byte_below w n
are_bytes (suc w) n (suc i) = are_bytes w n i

last_are : (w n : ℕ) → w ≤ 8 → drop (8 - w) (to_be_bytes w64 n) ≡ bytes_high_first w n
last_are w n few = drop-bytes_high_first 8 w n few

number_is : (w n : ℕ) → n < 256 ^ w → number (bytes_high_first w n) 0 (length (bytes_high_first w n)) ≡ n
unfolding be_bytes
number_is w n fits =
    ap (number (bytes_high_first w n) 0) (length-be_bytes w n)
    ∙ ap (λ (xs : List ℕ). number xs 0 w) (sym (append-nil (bytes_high_first w n)))
    ∙ number-be_bytes w n [] fits

length_is : (w n : ℕ) → length (bytes_high_first w n) ≡ w
unfolding be_bytes
length_is w n = length-be_bytes w n

-- a number is read back from the digits of its last bytes, if it is no larger than these
pub hex_again : (count n most : ℕ) → most ≤ 8 * min count 8 → n < 2 ^ most
    → number_in_hex count (json.string (encode_lower (last_bytes count n))) ≡ Ok n
hex_again count n most few fits =
    let w : ℕ = min count 8 in
    let power : 256 ^ w ≡ 2 ^ (8 * w) = pow256 w in
    let more : 2 ^ most ≤ 2 ^ (8 * w) = pow-le-pow_right {n = 2} (omega arith) {i = most} {j = 8 * w} few in
    let small : n < 256 ^ w = omega (arith, power, more, fits) in
    ap (λ (bs : List ℕ). as_one (decoded_sized (decode_sized (encode_lower bs) w))) (last_are w n (omega arith))
    ∙ ap (λ (r : Result (List ℕ) FromHexError). as_one (decoded_sized r))
    (decode_sized-encode_lower (bytes_high_first w n) w (length_is w n) (are_bytes w n))
    ∙ ap (λ (m : ℕ). Ok m) (number_is w n small)
