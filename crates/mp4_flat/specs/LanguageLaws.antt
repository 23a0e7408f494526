-- The laws of languages and their codes.
use Rattle.std.proofs.Common.{◌≡◌, ℕ, zero, suc, ◌+◌, ◌-◌, ◌*◌, ◌/◌, ◌%◌, ◌<◌, ◌^◌, Bool, cond, List, [], ◌∷◌, refl, ap}
use Rattle.std.proofs.Common.{◌∙◌, arith}
use Rattle.std.proofs.lemmas.Bool.{lt-ltb}
use Rattle.std.proofs.lemmas.Str.{chars-IsAscii, IsUtf8-from_ascii}
use Rattle.std.specs.Char.Escape.{encode_utf16}
use Rattle.std.specs.List.{flat_map}
use Rattle.std.specs.Prelude.{slice_index}
use Rattle.std.specs.Str.{IsAscii, IsUtf8}
use Rattle.mp4_flat.specs.Language.{utf16_units, language_code, letters}

-- the code of a language fits 15 bits
pub language_fits : (text : List ℕ) → language_code text < 2 ^ 15
unfolding language_code
language_fits text = omega arith

letters_are_ascii : (code : ℕ) → IsAscii (letters code)
unfolding letters
letters_are_ascii code zero = omega arith
letters_are_ascii code (suc zero) = omega arith
letters_are_ascii code (suc (suc zero)) = omega arith
letters_are_ascii code (suc (suc (suc i))) = omega arith

-- the letters of a code are UTF-8
pub letters_are_text : (code : ℕ) → IsUtf8 (letters code)
letters_are_text code = IsUtf8-from_ascii (letters code) (letters_are_ascii code)

one_unit : (c : ℕ) → c < 0x10000 → encode_utf16 c ≡ c ∷ []
one_unit c small = ap
    (λ (b : Bool). cond b (c ∷ []) ((0xD800 + (c - 0x10000) / 0x400) ∷ (0xDC00 + (c - 0x10000) % 0x400) ∷ []))
    (lt-ltb c 0x10000 small)

units_of_letters : (code : ℕ) → utf16_units (letters code) ≡ letters code
unfolding letters
units_of_letters code =
    let first = one_unit (0x60 + code / 1024 % 32) (omega arith) in
    let second = one_unit (0x60 + code / 32 % 32) (omega arith) in
    let third = one_unit (0x60 + code % 32) (omega arith) in
    ap (flat_map encode_utf16) (chars-IsAscii (letters code) (letters_are_ascii code)) ∙ rw (first, second, third) refl

code_of_units : List ℕ → ℕ
code_of_units units = slice_index units 0 % 32 * 1024 + slice_index units 1 % 32 * 32 + slice_index units 2 % 32

-- the code of the letters of a number is the 15 low bits of that number
code_of_letters : (code : ℕ) → language_code (letters code) ≡ code % 2 ^ 15
unfolding language_code letters code_of_units
code_of_letters code = ap code_of_units (units_of_letters code) ∙ omega arith

-- the code of a language is the code of the letters of that code
pub language_back : (text : List ℕ) → language_code (letters (language_code text)) ≡ language_code text
language_back text = code_of_letters (language_code text) ∙ omega (arith, language_fits text)

low_letters : (code : ℕ) → letters (code % 2 ^ 15) ≡ letters code
unfolding letters
low_letters code =
    let first : code % 2 ^ 15 / 1024 % 32 ≡ code / 1024 % 32 = omega arith in
    let second : code % 2 ^ 15 / 32 % 32 ≡ code / 32 % 32 = omega arith in
    let third : code % 2 ^ 15 % 32 ≡ code % 32 = omega arith in
    rw (first, second, third) refl

-- the letters of a code are unchanged if they are converted to a code and back
pub letters_back : (code : ℕ) → letters (language_code (letters code)) ≡ letters code
letters_back code = ap letters (code_of_letters code) ∙ low_letters code
