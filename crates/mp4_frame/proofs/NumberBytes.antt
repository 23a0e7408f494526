-- The bytes of the number at an offset are the bytes there.
use Rattle.std.proofs.Common.{◌≡◌, ℕ, zero, suc, ◌+◌, ◌*◌, ◌%◌, ◌^◌, ◌<◌, ◌≤◌, List, [], ◌∷◌, ◌++◌, length, take}
use Rattle.std.proofs.Common.{drop, slice_index, refl, sym, ap, ◌∙◌, arith}
use Rattle.std.proofs.Math.Nat.{mod-eq_of_lt}
use Rattle.std.proofs.Math.Seq.{take-add}
use Rattle.std.proofs.lemmas.List.{drop_more, drop-drop}
use Rattle.std.proofs.lemmas.Nat.{div-mul-add}
use Rattle.std.specs.Int.{byte_at, bytes_high_first}
use Rattle.mp4_lemmas.proofs.Numbers.{byte_is, low_bytes}
use Rattle.byteorder.specs.Endian.{big_from}
use Rattle.byteorder.specs.Numbers.{big_from-lt}
use Rattle.mp4_frame.specs.Bytes.{number, be_bytes, bytes_of_fields, width_of_fields}
use Rattle.mp4_frame.specs.Laws.{AreBytes}
use Rattle.mp4_frame.proofs.Fields.{concat_fields, bytes_of_fields-concat}

bytes_of_number : (xs : List ℕ) → AreBytes xs → (o w : ℕ) → o + w ≤ length xs
    → bytes_high_first w (big_from o w xs) ≡ take w (drop o xs)
bytes_of_number xs are o zero room = refl
bytes_of_number xs are o (suc w) room =
    let x = slice_index xs o in
    let m = big_from (suc o) w xs in
    let p = 256 ^ w in
    let small : m < p = big_from-lt (suc o) w xs are in
    let first : byte_at w (x * p + m) ≡ x = byte_is w (x * p + m) ∙ ap (λ (y : ℕ). y % 256) (div-mul-add x p m small)
    ∙ mod-eq_of_lt (are o) in
    let next : o + 1 ≡ suc o = omega arith in
    let here : drop o xs ≡ x ∷ drop (suc o) xs = drop_more xs o 0 (omega (arith, room))
    ∙ ap (λ (k : ℕ). x ∷ drop k xs) next in
    ap (λ (b : ℕ). b ∷ bytes_high_first w (x * p + m)) first
    ∙ ap (λ (l : List ℕ). x ∷ l) (low_bytes w x m ∙ bytes_of_number xs are (suc o) w (omega (arith, room)))
    ∙ ap (take (suc w)) (sym here)

-- the bytes of the number at an offset are the bytes there
pub bytes_there : (xs : List ℕ) → AreBytes xs → (o w : ℕ) → o + w ≤ length xs
    → be_bytes w (number xs o w) ≡ take w (drop o xs)
unfolding be_bytes number
bytes_there xs are o w room = bytes_of_number xs are o w room

-- the numbers of these widths as fields, the first of them at an offset
abbrev pub fields_at : List ℕ → ℕ → List ℕ → List (ℕ × ℕ)
fields_at xs o [] = []
fields_at xs o (w ∷ ws) = (w, number xs o w) ∷ fields_at xs (o + w) ws

concat_there : (xs : List ℕ) → AreBytes xs → (o : ℕ) (ws : List ℕ) → o + width_of_fields (fields_at xs o ws) ≤ length xs
    → concat_fields (fields_at xs o ws) ≡ take (width_of_fields (fields_at xs o ws)) (drop o xs)
unfolding concat_fields
concat_there xs are o [] room = refl
concat_there xs are o (w ∷ ws) room =
    let rest = fields_at xs (o + w) ws in
    let n = width_of_fields rest in
    ap (λ (l : List ℕ). l ++ concat_fields rest) (bytes_there xs are o w (omega (arith, room)))
    ∙ ap (λ (l : List ℕ). take w (drop o xs) ++ l) (concat_there xs are (o + w) ws (omega (arith, room)))
    ∙ ap (λ (l : List ℕ). take w (drop o xs) ++ take n l) (sym (drop-drop w o xs))
    ∙ sym (take-add w n (drop o xs))

-- the bytes of these fields are the bytes that start at the offset
pub fields_there : (xs : List ℕ) → AreBytes xs → (o : ℕ) (ws : List ℕ)
    → o + width_of_fields (fields_at xs o ws) ≤ length xs
    → bytes_of_fields (fields_at xs o ws) ≡ take (width_of_fields (fields_at xs o ws)) (drop o xs)
fields_there xs are o ws room = bytes_of_fields-concat (fields_at xs o ws) ∙ concat_there xs are o ws room
