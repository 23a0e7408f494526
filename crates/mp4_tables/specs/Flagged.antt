-- Fields that are present only if a flag of the box is set, one after the other.
use Rattle.std.specs.Prelude.{◌≡◌, ℕ, ◌<◌, ◌^◌, Bool, true, false, nat_lt, bit_and, List, [], Option, Some, None}
use Rattle.std.specs.Prelude.{if◌then◌else◌}
use Rattle.mp4_frame.specs.Bytes.{be_bytes}

-- the flag is set in flags
unfoldable pub is_set : ℕ → ℕ → Bool
is_set flags flag = nat_lt 0 (bit_and flags flag)

-- the number of bytes of a field of w bytes: w if its flag is set, else 0
unfoldable pub width_if : Bool → ℕ → ℕ
width_if is_flagged w = if is_flagged then w else 0

-- the field of w bytes at o if its flag is set, where `n o w` is the number of w bytes at offset o
unfoldable pub number_if : (ℕ → ℕ → ℕ) → Bool → ℕ → ℕ → Option ℕ
number_if n is_flagged o w = if is_flagged then Some (n o w) else None

-- the bytes of a field of w bytes, or none if it is not present
unfoldable pub optional : ℕ → Option ℕ → List ℕ
optional w (Some n) = be_bytes w n
optional w None = []

-- a field of w bytes is present if and only if its flag is set, and its number fits
abbrev pub IsPresent : Bool → ℕ → Option ℕ → Type 0
IsPresent is_flagged w (Some n) = (is_flagged ≡ true) × (n < 256 ^ w)
IsPresent is_flagged w None = is_flagged ≡ false
