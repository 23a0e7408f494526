-- Fixed-point numbers in decimals.
use Rattle.std.specs.Prelude.{ℕ, ◌+◌, ◌*◌, ◌/◌, ◌^◌, ◌==◌, ◌&&◌, nat_le, nat_lt, Bool, List, if◌then◌else◌}
use Rattle.std.specs.Prelude.{Option, Some, None, length, drop, min}
use Rattle.std.specs.Str.Parse.{digits_value, starts_with_minus}
use Rattle.fast_float.specs.Text.{Parts, scan, has_digits, digits_of}

-- a decimal: whether it is negative, and its digits as one number, of which some are after the point
abbrev pub Decimal : Type 0
Decimal = Bool × (ℕ × ℕ)

-- the text without a minus in front
abbrev pub unsigned_part : List ℕ → List ℕ
unsigned_part s = if starts_with_minus s then drop 1 s else s

-- a number of at most 37 digits, and one of at most 37
abbrev pub few_digits : ℕ → Option ℕ
few_digits n = if nat_lt n (10 ^ 37) then Some n else None

abbrev pub few_places : ℕ → Option ℕ
few_places n = if nat_le n 37 then Some n else None

-- the zeros that an exponent appends, and the digits by which it moves the point
abbrev pub up_in : Parts → ℕ
up_in p = if p.exponent_negative then 0 else digits_value 10 p.exponent

abbrev pub down_in : Parts → ℕ
down_in p = if p.exponent_negative then digits_value 10 p.exponent else 0

-- the digits as one number, and how many of them are after the point
abbrev pub digits_in : Parts → Option ℕ
digits_in p = few_digits (digits_of p * 10 ^ up_in p)

abbrev pub places_in : Parts → Option ℕ
places_in p = few_places (length p.fraction + down_in p)

-- the numeral is the whole text, and has a digit
abbrev pub is_only : List ℕ → Parts → Bool
is_only s p = (p.len == length s) && has_digits p

abbrev pub with_places : Bool → Option ℕ → Option ℕ → Option Decimal
with_places negative (Some n) (Some k) = Some (negative, (n, k))
with_places negative (Some n) None = None
with_places negative None k = None

abbrev pub decimal_of : Bool → List ℕ → Parts → Option Decimal
decimal_of negative s p = if is_only s p then with_places negative (digits_in p) (places_in p) else None

-- the decimal that a text is: at most 37 digits, at most 37 of them after the point
abbrev pub decimal_in : List ℕ → Option Decimal
decimal_in s = decimal_of (starts_with_minus s) (unsigned_part s) (scan (unsigned_part s))

-- the whole number nearest to a / b; a half is rounded up
abbrev pub nearest : ℕ → ℕ → ℕ
nearest a b = (2 * a + b) / (2 * b)

-- the number of bits that stands for a decimal without its sign; at most 30 bits are after the point
abbrev pub fixed_bits : ℕ → Decimal → ℕ
fixed_bits bits d = nearest (d.1.0 * 2 ^ min bits 30) (10 ^ d.1.1)

-- fewer than 57 bits
abbrev pub small_bits : ℕ → Option ℕ
small_bits n = if nat_lt n (2 ^ 56) then Some n else None

abbrev pub few_bits : ℕ → Decimal → Option ℕ
few_bits bits d = small_bits (fixed_bits bits d)
