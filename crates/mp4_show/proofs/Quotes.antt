-- Texts between quotes, one character at a time.
use Rattle.std.proofs.Common.{◌≡◌, ℕ, List, [], ◌++◌, length, IsUtf8, encode_utf8}
use Rattle.std.proofs.lemmas.List.{nil_from_length}
use Rattle.std.proofs.lemmas.Str.{chars-nil, chars_past_char}
use Rattle.mp4_show.specs.Texts.{quoted, quoted_char}

pub quoted_empty : (text : List ℕ) → length text ≡ 0 → quoted text ≡ []
unfolding quoted
quoted_empty text none = rw (nil_from_length text none, chars-nil)

pub quoted_step : (text rest : List ℕ) (c : ℕ) → IsUtf8 text → text ≡ encode_utf8 c ++ rest
    → quoted text ≡ quoted_char c ++ quoted rest
unfolding quoted
quoted_step text rest c utf8 parts = rw (chars_past_char text rest c utf8 parts)
