-- Pieces that are put at an offset of a slice, and the numbers in the bytes of fields.
use Rattle.std.proofs.Common.{◌≡◌, ℕ, zero, suc, cond, ltb, eqb, ◌+◌, ◌-◌, ◌*◌, ◌<◌, ◌≤◌, ◌^◌, ◌/◌}
use Rattle.std.proofs.Common.{◌%◌, List, [], ◌∷◌, ◌++◌, length, take, set, replicate, refl, ap, sym, ◌∙◌, append_assoc}
use Rattle.std.proofs.Common.{arith, length-append}
use Rattle.std.proofs.lemmas.List.{append-nil, length-replicate, take_more_set}
use Rattle.byteorder.specs.Numbers.{big_from-lt, big_number-reads_back, length-bytes_high_first}
use Rattle.std.proofs.lemmas.Bool.{cond_both, eqb-true, ltb-false}
use Rattle.byteorder.specs.Endian.{big_bytes}
use Rattle.std.specs.Int.{Width, byte_at}
use Rattle.std.specs.Prelude.{ℤ}
use mir.Val.{of_z, to_z, SFits}
use Rattle.std.proofs.lemmas.Int.{to_z-of_z}
use borrow.Rule.Slice.PartMut.{put_mid, post_of}
use Rattle.mp4_lemmas.proofs.Lists.{take_written}
use Rattle.mp4_lemmas.proofs.Numbers.{byte_at-zero}
use Rattle.mp4_frame.specs.Reading.{expect_bytes, done}
use Rattle.mp4_frame.specs.Laws.{AreBytes}
use Rattle.mp4_frame.proofs.Checks.{expect_bytes_present}
use Rattle.mp4_frame.proofs.Numbers.{number-after}
use Rattle.mp4_frame.specs.Bytes.{number, be_bytes, bytes_of_fields, bytes_of_fields_onto, width_of_fields, FieldsFit}

pub length-be_bytes : (w n : ℕ) → length (be_bytes w n) ≡ w
unfolding be_bytes
length-be_bytes w n = length-bytes_high_first w n

-- a piece that was put at offset `at`
pub put_piece : (xs piece : List ℕ) (at k w : ℕ) (new rest : List ℕ) → at ≤ length xs → length piece ≡ w
    → new ≡ piece ++ rest → take (at + w) (put_mid at k xs new) ≡ take at xs ++ piece
put_piece xs piece at k w new rest le len e =
    ap (λ (ys : List ℕ). take (at + w) (put_mid at k xs ys)) e
    ∙ ap (λ (ys : List ℕ). take (at + w) (take at xs ++ ys)) (append_assoc piece rest (post_of at k xs))
    ∙ take_written xs piece (rest ++ post_of at k xs) at w le len

-- a number that was put at offset `at`
pub put_be_bytes : (xs : List ℕ) (at k w n : ℕ) (new rest : List ℕ) → at ≤ length xs → new ≡ big_bytes w n ++ rest
    → take (at + w) (put_mid at k xs new) ≡ take at xs ++ be_bytes w n
unfolding be_bytes
put_be_bytes xs at k w n new rest le e = put_piece xs (big_bytes w n) at k w new rest le (length-bytes_high_first w n) e

pub put_byte : (xs : List ℕ) (at n : ℕ) → at < length xs → n < 2 ^ 8
    → take (at + 1) (set xs at n) ≡ take at xs ++ be_bytes 1 n
unfolding be_bytes
put_byte xs at n lt fits =
    let e : n ≡ n % 256 = omega arith in
    take_more_set xs at n lt ∙ ap (λ (b : ℕ). take at xs ++ b ∷ []) e

-- a version of one byte and flags of three, as one number of four
pub version_and_flags : (front : List ℕ) (version flags : ℕ) → version < 2 ^ 8 → flags < 2 ^ 24
    → front ++ be_bytes 4 (version * 2 ^ 24 + flags) ≡ (front ++ be_bytes 1 version) ++ be_bytes 3 flags
unfolding be_bytes
version_and_flags front version flags v f =
    let n = version * 16777216 + flags in
    let first : n / 16777216 % 256 ≡ version % 256 = omega (arith, v, f) in
    let second : n / 65536 % 256 ≡ flags / 65536 % 256 = omega (arith, v, f) in
    let third : n / 256 % 256 ≡ flags / 256 % 256 = omega (arith, v, f) in
    let last : n % 256 ≡ flags % 256 = omega (arith, v, f) in
    ap (λ (bytes : List ℕ). front ++ bytes) (rw (first, second, third, last) refl)
    ∙ sym (append_assoc front (be_bytes 1 version) (be_bytes 3 flags))

be_bytes-zero : (w : ℕ) → replicate w 0 ≡ be_bytes w 0
unfolding be_bytes
be_bytes-zero zero = refl
be_bytes-zero (suc w) = let b : 0 ≡ byte_at w 0 = sym (byte_at-zero w) in ap (λ (x : ℕ). x ∷ replicate w 0) b
    ∙ ap (λ (xs : List ℕ). byte_at w 0 ∷ xs) (be_bytes-zero w)

pub put_zeros : (xs : List ℕ) (at k w : ℕ) (new : List ℕ) → at ≤ length xs → new ≡ replicate w 0
    → take (at + w) (put_mid at k xs new) ≡ take at xs ++ be_bytes w 0
put_zeros xs at k w new le e =
    ap (λ (ys : List ℕ). take (at + w) (put_mid at k xs ys)) e
    ∙ take_written xs (replicate w 0) (post_of at k xs) at w le (length-replicate w 0)
    ∙ ap (λ (ys : List ℕ). take at xs ++ ys) (be_bytes-zero w)

-- ---- the numbers in the bytes of fields

-- the bytes of the fields, joined from the front
unfoldable pub concat_fields : List (ℕ × ℕ) → List ℕ
concat_fields [] = []
concat_fields (c ∷ cs) = be_bytes c.0 c.1 ++ concat_fields cs

bytes_of_fields_onto-concat : (front : List ℕ) (cs : List (ℕ × ℕ))
    → bytes_of_fields_onto front cs ≡ front ++ concat_fields cs
unfolding bytes_of_fields_onto concat_fields
bytes_of_fields_onto-concat front [] = sym (append-nil front)
bytes_of_fields_onto-concat front (c ∷ cs) = bytes_of_fields_onto-concat (front ++ be_bytes c.0 c.1) cs
    ∙ append_assoc front (be_bytes c.0 c.1) (concat_fields cs)

pub bytes_of_fields-concat : (cs : List (ℕ × ℕ)) → bytes_of_fields cs ≡ concat_fields cs
unfolding bytes_of_fields
bytes_of_fields-concat cs = bytes_of_fields_onto-concat [] cs

length-concat_fields : (cs : List (ℕ × ℕ)) → length (concat_fields cs) ≡ width_of_fields cs
unfolding concat_fields
length-concat_fields [] = refl
length-concat_fields (c ∷ cs) = length-append (be_bytes c.0 c.1) (concat_fields cs)
    ∙ ap (λ (n : ℕ). n + length (concat_fields cs)) (length-be_bytes c.0 c.1)
    ∙ ap (λ (n : ℕ). c.0 + n) (length-concat_fields cs)

pub length-fields : (cs : List (ℕ × ℕ)) → length (bytes_of_fields cs) ≡ width_of_fields cs
unfolding bytes_of_fields
length-fields cs = ap length (bytes_of_fields-concat cs) ∙ length-concat_fields cs

-- The number of w bytes at offset o in the bytes of fields and the bytes after them. It is the number of the field
-- there, if the field begins at o and has w bytes.
abbrev pub found : List (ℕ × ℕ) → List ℕ → ℕ → ℕ → ℕ
found [] rest o w = number rest o w
found (c ∷ cs) rest o w =
    cond (ltb o c.0) (cond (eqb o 0) (cond (eqb w c.0) c.1 (number (concat_fields (c ∷ cs) ++ rest) o w))
    (number (concat_fields (c ∷ cs) ++ rest) o w)) (found cs rest (o - c.0) w)

pub number-be_bytes : (w n : ℕ) (rest : List ℕ) → n < 256 ^ w → number (be_bytes w n ++ rest) 0 w ≡ n
unfolding number be_bytes
number-be_bytes w n rest fits = big_number-reads_back w n rest fits

found-concat_fields : (cs : List (ℕ × ℕ)) (rest : List ℕ) (o w : ℕ) → FieldsFit cs
    → number (concat_fields cs ++ rest) o w ≡ found cs rest o w
unfolding concat_fields
found-concat_fields [] rest o w fits = refl
found-concat_fields (c ∷ cs) rest o w fits =
    let regrouped : (be_bytes c.0 c.1 ++ concat_fields cs) ++ rest ≡ be_bytes c.0 c.1 ++ (concat_fields cs ++ rest) =
    append_assoc (be_bytes c.0 c.1) (concat_fields cs) rest in
    let Is = λ (n : ℕ). number ((be_bytes c.0 c.1 ++ concat_fields cs) ++ rest) o w ≡ n in
    cond_both (ltb o c.0) _ _ Is
    (λ lt. cond_both (eqb o 0) _ _ Is
    (λ e. cond_both (eqb w c.0) _ _ Is
    (λ f. ap (λ (xs : List ℕ). number xs o w) regrouped
    ∙ ap (λ (k : ℕ). number (be_bytes c.0 c.1 ++ (concat_fields cs ++ rest)) k w) (eqb-true o 0 e)
    ∙ ap (number (be_bytes c.0 c.1 ++ (concat_fields cs ++ rest)) 0) (eqb-true w c.0 f)
    ∙ number-be_bytes c.0 c.1 (concat_fields cs ++ rest) fits.0)
    (λ f. refl))
    (λ e. refl))
    (λ ge. ap (λ (xs : List ℕ). number xs o w) regrouped
    ∙ number-after (be_bytes c.0 c.1) (concat_fields cs ++ rest) c.0 o w (length-be_bytes c.0 c.1)
    (ltb-false o c.0 ge) ∙ found-concat_fields cs rest (o - c.0) w fits.1)

pub number-fields : (cs : List (ℕ × ℕ)) (rest : List ℕ) (o w : ℕ) → FieldsFit cs
    → number (bytes_of_fields cs ++ rest) o w ≡ found cs rest o w
unfolding bytes_of_fields
number-fields cs rest o w fits = ap (λ (xs : List ℕ). number (xs ++ rest) o w) (bytes_of_fields_onto-concat [] cs)
    ∙ found-concat_fields cs rest o w fits

-- every number in the bytes of fields and the bytes after them
pub numbers-fields : (cs : List (ℕ × ℕ)) (rest : List ℕ) → FieldsFit cs
    → number (bytes_of_fields cs ++ rest) ≡ found cs rest
numbers-fields cs rest fits = λ i o w. number-fields cs rest o w fits i

-- the bytes of fields are present
pub expect_bytes-fields : (cs : List (ℕ × ℕ)) (rest : List ℕ) (o w : ℕ) → o + w ≤ width_of_fields cs
    → expect_bytes (bytes_of_fields cs ++ rest) o w ≡ done tt
expect_bytes-fields cs rest o w le =
    let n : o + w ≤ length (bytes_of_fields cs ++ rest) =
    omega (arith, length-append (bytes_of_fields cs) rest, length-fields cs) in
    expect_bytes_present (bytes_of_fields cs ++ rest) o w n

-- a number in the bytes of fields, with nothing after them
pub number-fields_alone : (cs : List (ℕ × ℕ)) (o w : ℕ) → FieldsFit cs
    → number (bytes_of_fields cs) o w ≡ found cs [] o w
number-fields_alone cs o w fits = ap (λ (xs : List ℕ). number xs o w) (sym (append-nil (bytes_of_fields cs)))
    ∙ number-fields cs [] o w fits

-- a number of w bytes is below 256 ^ w
pub number-below : (xs : List ℕ) (o w : ℕ) → AreBytes xs → number xs o w < 256 ^ w
unfolding number
number-below xs o w h = big_from-lt o w xs h

-- a signed number that was put after other bytes
pub signed_after : (v : Width) (xs ys zs : List ℕ) (w : ℕ) (z : ℤ) → SFits v z
    → xs ≡ ys ++ be_bytes w (of_z v (to_z v (of_z v z))) → ys ≡ zs → xs ≡ zs ++ be_bytes w (of_z v z)
signed_after v xs ys zs w z fits p q =
    p ∙ ap (λ (l : List ℕ). l ++ be_bytes w (of_z v (to_z v (of_z v z)))) q
    ∙ ap (λ (y : ℤ). zs ++ be_bytes w (of_z v y)) (to_z-of_z v z fits)
