-- The values of members: numbers, bytes and codes.
use Rattle.std.specs.Prelude.{ℕ, ℤ, pos, neg_ℤ, ◌-◌, ◌^◌, ◌==◌, ◌&&◌, ◌||◌, nat_le, nat_lt, not, Bool, List}
use Rattle.std.specs.Prelude.{if◌then◌else◌, Option, Some, None, option_and_then, length, min}
use Rattle.std.specs.Prelude.{Result, Ok, Err}
use Rattle.std.specs.List.{list_all}
use Rattle.std.specs.Str.{all_ascii_digits, chars}
use Rattle.std.specs.Str.Parse.{digits_value, starts_with_minus, without_leading_plus, without_leading_sign}
use Rattle.std.specs.Str.Parse.{signed_digits_value}
use Rattle.json.specs.Json.{Json}
use Rattle.json.specs.Find.{as_number, as_str}
use Rattle.hex.specs.Hex.{decode_of, decode_sized}
use Rattle.hex.specs.declared.error.FromHexError.{FromHexError}
use Rattle.hex.specs.declared.error.FromHexError.TheVariants as hex
use Rattle.mp4_frame.specs.Bytes as frame
use Rattle.mp4_shown.specs.declared.number_name.NumberAs.{NumberAs}
use Rattle.mp4_shown.specs.declared.number_name.NumberAs.TheVariants as number_as
use Rattle.mp4_shown.specs.Decimal.{Decimal, decimal_in, fixed_bits}
use Rattle.mp4_shown.specs.declared.taken.error.Reason.{Reason}
use Rattle.mp4_shown.specs.declared.taken.error.Reason.TheVariants as reasons

-- ---- numbers

-- one digit or more, and nothing else
abbrev pub is_numeral : List ℕ → Bool
is_numeral ds = not (length ds == 0) && all_ascii_digits ds

abbrev pub number_of_digits : List ℕ → Option ℕ
number_of_digits ds =
    if is_numeral ds && nat_lt (digits_value 10 ds) (2 ^ 64) then Some (digits_value 10 ds) else None

-- a whole number below 2^64
abbrev pub whole_in : Json → Option ℕ
whole_in j = option_and_then (λ s. number_of_digits (without_leading_plus s)) (as_number j)

abbrev pub fits_signed : Bool → ℕ → Bool
fits_signed negative n = if negative then nat_le n (2 ^ 63) else nat_lt n (2 ^ 63)

abbrev pub signed_of_digits : List ℕ → Option ℤ
signed_of_digits s =
    if is_numeral (without_leading_sign s)
    && fits_signed (starts_with_minus s) (digits_value 10 (without_leading_sign s))
    then Some (signed_digits_value 10 s) else None

-- a whole number of 64 bits that may be negative
abbrev pub signed_in : Json → Option ℤ
signed_in j = option_and_then signed_of_digits (as_number j)

-- a decimal
abbrev pub as_decimal : Json → Option Decimal
as_decimal j = option_and_then decimal_in (as_number j)

abbrev pub or_else : {A B : Type 0} → Reason → (A → Result B Reason) → Option A → Result B Reason
or_else reason of (Some v) = of v
or_else reason of None = Err reason

abbrev pub sized : {A : Type 0} → Bool → A → Result A Reason
sized fits v = if fits then Ok v else Err reasons.OutOfRange

-- a fixed-point number by its bits, which are fewer than 57; a negative one only if it is rounded to 0
abbrev pub fixed_of : ℕ → Decimal → Result ℕ Reason
fixed_of bits d =
    sized (nat_lt (fixed_bits bits d) (2 ^ 56) && (not d.0 || (fixed_bits bits d == 0))) (fixed_bits bits d)

abbrev pub signed_fixed_of : ℕ → Decimal → Result ℤ Reason
signed_fixed_of bits d =
    sized (nat_lt (fixed_bits bits d) (2 ^ 56))
    (if d.0 then neg_ℤ (pos (fixed_bits bits d)) else pos (fixed_bits bits d))

-- ---- bytes

abbrev pub decoded : Result (List ℕ) FromHexError → Result (List ℕ) Reason
decoded (Ok bytes) = Ok bytes
decoded (Err e) = Err reasons.NotHex

-- bytes by their hexadecimal digits
abbrev pub hex_in : Json → Result (List ℕ) Reason
hex_in j = or_else reasons.NotHex (λ s. decoded (decode_of s)) (as_str j)

abbrev pub decoded_sized : Result (List ℕ) FromHexError → Result (List ℕ) Reason
decoded_sized (Ok bytes) = Ok bytes
decoded_sized (Err hex.InvalidStringLength) = Err reasons.WrongLength
decoded_sized (Err e) = Err reasons.NotHex

-- n bytes by their hexadecimal digits
abbrev pub sized_hex_in : ℕ → Json → Result (List ℕ) Reason
sized_hex_in n j = or_else reasons.NotHex (λ s. decoded_sized (decode_sized s n)) (as_str j)

abbrev pub as_one : Result (List ℕ) Reason → Result ℕ Reason
as_one (Ok bytes) = Ok (frame.number bytes 0 (length bytes))
as_one (Err reason) = Err reason

-- a number by its last bytes, at most 8
abbrev pub number_in_hex : ℕ → Json → Result ℕ Reason
number_in_hex count j = as_one (sized_hex_in (min count 8) j)

-- ---- codes

-- four characters, each of the number of a byte
abbrev pub four_bytes : List ℕ → Option (List ℕ)
four_bytes cs = if (length cs == 4) && list_all (λ c. nat_lt c 256) cs then Some cs else None

-- the four bytes of a code
abbrev pub code_in : Json → Option (List ℕ)
code_in j = option_and_then (λ s. four_bytes (chars s)) (as_str j)

-- ---- a number by how it is shown

abbrev pub number_in : NumberAs → Json → Result ℕ Reason
number_in number_as.Plain j = or_else reasons.NotWhole Ok (whole_in j)
number_in number_as.Named j = or_else reasons.NotWhole Ok (whole_in j)
number_in (number_as.Flags digits) j = or_else reasons.NotWhole Ok (whole_in j)
number_in number_as.Date j = or_else reasons.NotWhole Ok (whole_in j)
number_in (number_as.Fixed bits) j = or_else reasons.NotNumber (fixed_of bits) (as_decimal j)
number_in (number_as.Hex count) j = number_in_hex count j
number_in (number_as.Reserved usual) j = or_else reasons.NotWhole Ok (whole_in j)

abbrev pub signed_by : NumberAs → Json → Result ℤ Reason
signed_by number_as.Plain j = or_else reasons.NotWhole Ok (signed_in j)
signed_by number_as.Named j = or_else reasons.NotWhole Ok (signed_in j)
signed_by (number_as.Flags digits) j = or_else reasons.NotWhole Ok (signed_in j)
signed_by number_as.Date j = or_else reasons.NotWhole Ok (signed_in j)
signed_by (number_as.Fixed bits) j = or_else reasons.NotNumber (signed_fixed_of bits) (as_decimal j)
signed_by (number_as.Hex count) j = or_else reasons.NotWhole Ok (signed_in j)
signed_by (number_as.Reserved usual) j = or_else reasons.NotWhole Ok (signed_in j)
