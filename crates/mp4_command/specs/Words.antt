-- The words of a command line as text.
use Rattle.std.specs.Prelude.{ℕ, zero, suc, ◌==◌, List, [], ◌∷◌, ◌++◌, length, take, drop}
use Rattle.std.specs.Prelude.{flat_map, codes, if◌then◌else◌}
use Rattle.std.specs.Char.Escape.{hex_digit_at}
use Rattle.std.specs.Str.{is_utf8}
use Rattle.std.specs.Str.Lossy.{utf8_valid_len, utf8_invalid_len, after_first_chunk}
use Rattle.mp4_show.specs.Escaped.{text_escaped}

-- a byte that is not text, such as `\xe9`
abbrev pub byte_escaped : ℕ → List ℕ
byte_escaped byte = codes "\\x" ++ (hex_digit_at 0x10 byte ∷ hex_digit_at 1 byte ∷ [])

-- the text at the front, and the bytes after it that are not text
abbrev pub first_text : List ℕ → List ℕ
first_text bytes = take (utf8_valid_len bytes) bytes

abbrev pub after_text : List ℕ → List ℕ
after_text bytes = drop (utf8_valid_len bytes) bytes

abbrev pub not_text : List ℕ → List ℕ
not_text bytes = take (utf8_invalid_len (after_text bytes)) (after_text bytes)

-- `bytes_escaped`, for at most k sequences of bytes that are not text
abbrev pub bytes_escaped_within : ℕ → List ℕ → List ℕ
bytes_escaped_within zero bytes = text_escaped bytes
bytes_escaped_within (suc k) bytes =
    if utf8_valid_len bytes == length bytes then text_escaped bytes
    else text_escaped (first_text bytes)
    ++ (flat_map byte_escaped (not_text bytes) ++ bytes_escaped_within k (after_first_chunk bytes))

-- bytes as text: escaped where they are UTF-8, and each other byte as `\xe9`
unfoldable pub bytes_escaped : List ℕ → List ℕ
bytes_escaped bytes = bytes_escaped_within (length bytes) bytes

-- a word as text: as it is if it is UTF-8, and else escaped, with the mark at its end
abbrev pub word_text : List ℕ → List ℕ
word_text bytes = if is_utf8 bytes then bytes else bytes_escaped bytes ++ (0 ∷ [])
