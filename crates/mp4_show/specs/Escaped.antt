-- Characters that are shown by their numbers.
use Rattle.std.specs.Prelude.{ℕ, List, [], ◌∷◌, ◌++◌, Bool, ◌||◌, ◌&&◌, ◌==◌, nat_le, nat_lt, codes, encode_utf8}
use Rattle.std.specs.Prelude.{flat_map, if◌then◌else◌}
use Rattle.std.specs.Char.Escape.{hex_digit_at}
use Rattle.std.specs.Str.{chars}
use Rattle.mp4_show.specs.declared.escape.Form.{Form}
use Rattle.mp4_show.specs.declared.escape.Form.TheVariants as forms

-- a number is at least the first and at most the last
abbrev pub is_between : ℕ → ℕ → ℕ → Bool
is_between first last c = nat_le first c && nat_le c last

-- a character is shown by its number: a control character (C0, DEL, C1), a separator of lines or paragraphs, or one
-- that sets the direction of text (Unicode, Bidi_Control)
abbrev pub is_escaped : ℕ → Bool
is_escaped c =
    nat_le c 0x1F || is_between 0x7F 0x9F c || (c == 0x61C) || is_between 0x200E 0x200F c
    || is_between 0x2028 0x202E c || is_between 0x2066 0x2069 c

-- the hexadecimal digit at a place, unless it and all before it are 0
abbrev pub leading_digit : ℕ → ℕ → List ℕ
leading_digit place c = if nat_lt c place then [] else hex_digit_at place c ∷ []

-- the hexadecimal digits of a number below 2 ^ 16: at least one, and four
abbrev pub short_digits : ℕ → List ℕ
short_digits c =
    leading_digit 0x1000 c ++ (leading_digit 0x100 c ++ (leading_digit 0x10 c ++ hex_digit_at 1 c ∷ []))

abbrev pub four_digits : ℕ → List ℕ
four_digits c = hex_digit_at 0x1000 c ∷ hex_digit_at 0x100 c ∷ hex_digit_at 0x10 c ∷ hex_digit_at 1 c ∷ []

-- a number as text has it, `\u{9b}`, and the end of a line as `\n`; and as JSON has it, `\u009b`
unfoldable pub number_in : Form → ℕ → List ℕ
number_in forms.Text c = if c == 10 then codes "\\n" else codes "\\u{" ++ (short_digits c ++ codes "}")
number_in forms.Json c = codes "\\u" ++ four_digits c

-- what stands for a character
unfoldable pub shown_char : Form → ℕ → List ℕ
shown_char form c = if is_escaped c then number_in form c else encode_utf8 c

-- what stands for a text
unfoldable pub escaped : Form → List ℕ → List ℕ
escaped form text = flat_map (shown_char form) (chars text)

-- and in each form
abbrev pub text_escaped : List ℕ → List ℕ
text_escaped = escaped forms.Text

abbrev pub json_escaped : List ℕ → List ℕ
json_escaped = escaped forms.Json
