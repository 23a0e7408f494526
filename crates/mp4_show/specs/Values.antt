-- The text of the value of a field.
use Rattle.std.specs.Prelude.{ℕ, ℤ, pos, negsuc, ◌++◌, ◌&&◌, Bool, false, List, codes, decimal, if◌then◌else◌}
use Rattle.std.specs.Fmt.{signed_decimal}
use Rattle.std.specs.Ordering.{int_eq}
use Rattle.mp4_show.specs.Dates.{date_shown}
use Rattle.mp4_show.specs.Texts.{bytes_shown, code_shown, codes_shown, fixed_shown, flags_shown, float_shown}
use Rattle.mp4_show.specs.Texts.{matrix_shown, numbers_shown, signed_fixed_shown, text_shown}
use Rattle.mp4_shown.specs.Event.{Shown}
use Rattle.mp4_shown.specs.Event as shown
use Rattle.mp4_shown.specs.declared.value.Matrix.{Matrix}
use Rattle.mp4_shown_json.specs.Tokens.{last_bytes}

-- a number, and what it means
abbrev pub meaning_shown : ℕ → List ℕ → List ℕ
meaning_shown n meaning = decimal n ++ (codes " (" ++ (meaning ++ codes ")"))

-- the start of an edit in its media; -1 is an empty edit
abbrev pub media_time_shown : ℤ → List ℕ
media_time_shown z = if int_eq z (negsuc 0) then codes "empty" else signed_decimal z

abbrev pub value_shown : Shown → List ℕ
value_shown (shown.number n) = decimal n
value_shown (shown.signed z) = signed_decimal z
value_shown (shown.named n meaning) = meaning_shown n meaning
value_shown (shown.flags n digits meanings) = flags_shown n digits meanings
value_shown (shown.date n) = date_shown n
value_shown (shown.fixed n bits) = fixed_shown n bits
value_shown (shown.signed_fixed z bits) = signed_fixed_shown z bits
value_shown (shown.float decimal_text) = float_shown decimal_text
value_shown (shown.media_time z) = media_time_shown z
value_shown (shown.hex n count) = bytes_shown (last_bytes count n)
value_shown (shown.code bytes) = code_shown bytes
value_shown (shown.code_list cs) = codes_shown cs
value_shown (shown.text t) = text_shown t
value_shown (shown.bytes bs) = bytes_shown bs
value_shown (shown.number_list zs) = numbers_shown zs
value_shown (shown.matrix m) = matrix_shown m

-- a row of a transformation is these numbers
unfoldable pub is_row : ℤ × ℤ × ℤ → ℤ → ℤ → ℤ → Bool
is_row row first second third = int_eq row.0 first && int_eq row.1 second && int_eq row.2 third

-- the transformation that changes nothing
abbrev pub is_identity : Matrix → Bool
is_identity m =
    is_row (m.a, m.b, m.u) (pos 0x10000) (pos 0) (pos 0)
    && is_row (m.c, m.d, m.v) (pos 0) (pos 0x10000) (pos 0)
    && is_row (m.x, m.y, m.w) (pos 0) (pos 0) (pos 0x40000000)

-- a value is left out of a text, since most boxes have it
abbrev pub is_usual : Shown → Bool
is_usual (shown.matrix m) = is_identity m
is_usual _ = false
