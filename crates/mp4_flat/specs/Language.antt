-- The language of a media header (ISO/IEC 14496-12, 8.4.2): three letters of five bits each, in one number.
use Rattle.std.specs.Prelude.{ℕ, ◌+◌, ◌*◌, ◌/◌, ◌%◌, List, [], ◌∷◌, ◌++◌, slice_index}
use Rattle.std.specs.Char.Escape.{encode_utf16}
use Rattle.std.specs.List.{flat_map}
use Rattle.std.specs.Str.{chars}
use Rattle.std.specs.Str.Iter.{encode_utf16_rest, encode_utf16_pending}
use Rattle.std.specs.declared.str.EncodeUtf16.{EncodeUtf16}

-- the UTF-16 units of a string
abbrev pub utf16_units : List ℕ → List ℕ
utf16_units text = flat_map encode_utf16 (chars text)

-- the units that an iterator has not yet returned
abbrev pub units_left : EncodeUtf16 → List ℕ
units_left units = encode_utf16_pending units ++ utf16_units (encode_utf16_rest units)

-- the five low bits of each of the first three units, with the first unit in the highest bits; a missing unit is 0
unfoldable pub language_code : List ℕ → ℕ
language_code text =
    slice_index (utf16_units text) 0 % 32 * 1024 + slice_index (utf16_units text) 1 % 32 * 32 + slice_index
    (utf16_units text) 2 % 32

-- the three letters of a code; each is 0x60 plus five bits of the code
unfoldable pub letters : ℕ → List ℕ
letters code = (0x60 + code / 1024 % 32) ∷ (0x60 + code / 32 % 32) ∷ (0x60 + code % 32) ∷ []
