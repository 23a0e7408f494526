-- Numbers, codes, bytes and texts as text.
use Rattle.std.specs.Prelude.{ℕ, ℤ, suc, ◌-◌, ◌/◌, ◌%◌, ◌^◌, Bool, true, false, ◌||◌, ◌==◌, nat_eq, nat_lt}
use Rattle.std.specs.Prelude.{List, [], ◌∷◌, ◌++◌, bit_and, length, take, min, codes, decimal, flat_map}
use Rattle.std.specs.Prelude.{if◌then◌else◌, unsigned_abs}
use Rattle.std.specs.Char.Escape.{hex_digit_at}
use Rattle.std.specs.Fmt.{digits, format_spec, padded_integral, sign_text, signed_decimal}
use Rattle.std.specs.Int.{is_negative}
use Rattle.std.specs.List.{ends_with, list_all}
use Rattle.std.specs.Str.{chars}
use Rattle.std.specs.Str.Lossy.{utf8_lossy}
use Rattle.mp4_shown.specs.Event.{Meaning}
use Rattle.mp4_shown.specs.declared.value.Matrix.{Matrix}
use Rattle.mp4_shown_json.specs.Fixed.{one_of, fraction}
use Rattle.mp4_shown_json.specs.Tokens.{code_text}
use Rattle.mp4_show.specs.Escaped.{is_between, shown_char}
use Rattle.mp4_show.specs.declared.escape.Form.TheVariants as forms

-- the two hexadecimal digits of a byte
abbrev pub byte_digits : ℕ → List ℕ
byte_digits byte = hex_digit_at 0x10 byte ∷ hex_digit_at 1 byte ∷ []

-- a byte is a character that can be printed, of ASCII or of Latin-1
abbrev pub is_printable : ℕ → Bool
is_printable byte = is_between 0x20 0x7E byte || is_between 0xA0 0xFF byte

-- a code: its characters, or 0x and its digits if one of them can't be printed
abbrev pub code_shown : List ℕ → List ℕ
code_shown code = if list_all is_printable code then code_text code else codes "0x" ++ flat_map byte_digits code

-- n / 2 ^ bits, with a point only if digits follow it, and at most 30 bits after it
abbrev pub fixed_shown : ℕ → ℕ → List ℕ
fixed_shown n bits =
    decimal (n / one_of bits)
    ++ (if n % one_of bits == 0 then [] else 46 ∷ fraction (suc (min bits 30)) (n % one_of bits) (one_of bits))

-- such a number that may be negative
unfoldable pub signed_fixed_shown : ℤ → ℕ → List ℕ
signed_fixed_shown z bits = sign_text (is_negative z) ++ fixed_shown (unsigned_abs z) bits

-- the digits of the first bytes, and whether more follow
abbrev pub front_shown : Bool → List ℕ → List ℕ
front_shown more [] = []
front_shown more (byte ∷ bytes) =
    flat_map byte_digits (byte ∷ bytes) ++ (if more then codes ".. " else codes " ")

-- bytes: the digits of at most 24, and their number
abbrev pub bytes_shown : List ℕ → List ℕ
bytes_shown bytes =
    front_shown (nat_lt 24 (length bytes)) (take 24 bytes)
    ++ (codes "("
    ++ (decimal (length bytes) ++ (if length bytes == 1 then codes " byte)" else codes " bytes)")))

-- a text in a colour, if colours are wanted
abbrev pub colored : Bool → List ℕ → List ℕ → List ℕ
colored false color text = text
colored true color text =
    codes "\u{1b}[" ++ (color ++ (codes "m" ++ (text ++ codes "\u{1b}[0m")))

-- the digits of a hexadecimal number: 2 (`{:02x}`), 6 if it has more than 2, and 8 if it has more than 6
abbrev pub least_digits : ℕ → ℕ
least_digits count = if nat_lt 6 count then 8 else if nat_lt 2 count then 6 else 2

abbrev pub hex_shown : ℕ → ℕ → List ℕ
hex_shown n count =
    codes "0x" ++ padded_integral (format_spec 32 0 4 (least_digits count) (2 ^ 64 - 1)) false [] (digits 16 false n)

-- the names of the flags that are set, between brackets; `first` if none is before them
abbrev pub before_flag : Bool → List ℕ
before_flag first = if first then codes " (" else codes ", "

unfoldable pub flag_names : Bool → ℕ → List Meaning → List ℕ
flag_names first flags [] = if first then [] else codes ")"
flag_names first flags (m ∷ ms) =
    if bit_and flags m.0 == 0 then flag_names first flags ms
    else before_flag first ++ (m.1.now ++ flag_names false flags ms)

abbrev pub flags_shown : ℕ → ℕ → List Meaning → List ℕ
flags_shown flags count names = hex_shown flags count ++ flag_names true flags names

-- a decimal, without the zero after the point of a whole number
abbrev pub float_shown : List ℕ → List ℕ
float_shown text = if ends_with nat_eq text (codes ".0") then take (length text - 2) text else text

-- codes, with a space between them
abbrev pub code_after_space : List ℕ → List ℕ
code_after_space code = 32 ∷ code_shown code

abbrev pub codes_shown : List (List ℕ) → List ℕ
codes_shown [] = codes "none"
codes_shown (c ∷ cs) = code_shown c ++ flat_map code_after_space cs

-- numbers, with a space between them
abbrev pub number_after_space : ℤ → List ℕ
number_after_space z = 32 ∷ signed_decimal z

abbrev pub numbers_shown : List ℤ → List ℕ
numbers_shown [] = []
numbers_shown (z ∷ zs) = signed_decimal z ++ flat_map number_after_space zs

-- a row of a transformation, of which the last number has 30 bits after the point
unfoldable pub row_shown : ℤ → ℤ → ℤ → List ℕ
row_shown first second third =
    signed_fixed_shown first 16
    ++ (32 ∷ (signed_fixed_shown second 16 ++ (32 ∷ signed_fixed_shown third 30)))

abbrev pub matrix_shown : Matrix → List ℕ
matrix_shown m =
    codes "("
    ++ (row_shown m.a m.b m.u
    ++ (codes "; " ++ (row_shown m.c m.d m.v ++ (codes "; " ++ (row_shown m.x m.y m.w ++ codes ")")))))

-- a character of a text between quotes
abbrev pub quoted_char : ℕ → List ℕ
quoted_char c =
    if c == 34 then codes "\\\"" else
    if c == 92 then codes "\\\\" else shown_char forms.Text c

unfoldable pub quoted : List ℕ → List ℕ
quoted text = flat_map quoted_char (chars text)

-- bytes as a text between quotes, with U+FFFD for what is not UTF-8 in them
abbrev pub text_shown : List ℕ → List ℕ
text_shown bytes = 34 ∷ (quoted (utf8_lossy bytes) ++ (34 ∷ []))
