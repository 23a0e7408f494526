-- The number of the items of an array, and of the bits of bytes.
use Rattle.std.proofs.Common.{◌≡◌, ℕ, zero, suc, ◌+◌, ◌*◌, ◌^◌, List, [], ◌∷◌, length, refl, ap, ◌∙◌, arith}
use Rattle.std.proofs.lemmas.List.{length-map}
use Rattle.std.proofs.lemmas.Nat.{pow-add}
use Rattle.std.proofs.Math.Nat.{pow-suc}
use Rattle.std.specs.Prelude.{map}
use Rattle.json.specs.Json.{Json}
use Rattle.json.specs.Value.{items_of, items_view, value_view}
use Rattle.json.specs.declared.value.Value.{Value}
use Rattle.mp4_shown.specs.TakenLists.{length_of}

length_of_items : (js : List Json) → length_of (items_of js) ≡ length js
length_of_items [] = refl
length_of_items (j ∷ js) = omega (arith, length_of_items js)

pub items_length : {A : Type 0} (vs : List (Value A)) → length_of (items_view vs) ≡ length vs
items_length vs = length_of_items (map value_view vs) ∙ length-map vs value_view

pub bits_of_bytes : (n : ℕ) → 2 ^ (8 * n) ≡ 256 ^ n
bits_of_bytes zero = refl
bits_of_bytes (suc n) =
    let more : 8 * suc n ≡ 8 + 8 * n = omega arith in
    let apart : 2 ^ (8 + 8 * n) ≡ 2 ^ 8 * 2 ^ (8 * n) = pow-add 2 8 (8 * n) in
    let next : 256 ^ suc n ≡ 256 ^ n * 256 = pow-suc 256 n in
    ap (λ (k : ℕ). 2 ^ k) more ∙ apart ∙ omega (arith, next, bits_of_bytes n)
