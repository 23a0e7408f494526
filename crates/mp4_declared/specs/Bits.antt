-- Numbers in bit fields, one field after the other, the highest bits first. Widths are in bits.
use Rattle.std.specs.Prelude.{ℕ, ◌+◌, ◌*◌, ◌/◌, ◌%◌, ◌^◌, ◌<◌, ◌==◌, ◌&&◌, nat_le, nat_lt, Bool, List, [], ◌∷◌}

-- the number of bits of the fields, and of their bytes
abbrev pub bits : List ℕ → ℕ
bits [] = 0
bits (w ∷ ws) = w + bits ws

abbrev pub bytes_in : List ℕ → ℕ
bytes_in ws = bits ws / 8

-- the single number that the numbers in the fields make
abbrev pub joined : List ℕ → List ℕ → ℕ
joined (w ∷ ws) (n ∷ ns) = n * 2 ^ bits ws + joined ws ns
joined _ _ = 0

-- the numbers in the fields of a single number
abbrev pub split : List ℕ → ℕ → List ℕ
split [] x = []
split (w ∷ ws) x = x / 2 ^ bits ws % 2 ^ w ∷ split ws x

-- There is a number for each field, and it fits.
abbrev pub NumbersFit : List ℕ → List ℕ → Type 0
NumbersFit [] [] = Unit {0}
NumbersFit (w ∷ ws) (n ∷ ns) = (n < 2 ^ w) × NumbersFit ws ns
NumbersFit _ _ = ⊥

-- The fields end at the end of a byte. A field and the bits before it in its first byte are at most 64 bits. There are
-- `from` bits before the fields.
abbrev pub are_whole : ℕ → List ℕ → Bool
are_whole from [] = from % 8 == 0
are_whole from (w ∷ ws) = nat_le (from % 8 + w) 64 && are_whole (from + w) ws

-- The fields begin at the start of a byte, and have fewer than 2 ^ 32 bits in total.
abbrev pub are_fields : List ℕ → Bool
are_fields ws = are_whole 0 ws && nat_lt (bits ws) (2 ^ 32)
