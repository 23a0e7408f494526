-- Zero-terminated strings.
use Rattle.std.specs.Prelude.{◌≡◌, ℕ, ◌+◌, ◌==◌, Bool, false, List, [], ◌∷◌, ◌++◌, length, drop}
use Rattle.std.specs.List.{before_first, list_any}
use Rattle.std.specs.Str.{IsUtf8, is_utf8}
use Rattle.mp4_frame.specs.Reading.{Reading, ◌>>=◌, expect_bytes, check, memory, done}

abbrev pub is_zero : ℕ → Bool
is_zero byte = byte == 0

-- the bytes from offset o up to the first zero byte, without it, or up to the end if there is none
abbrev pub before_zero : List ℕ → ℕ → List ℕ
before_zero bytes o = before_first is_zero (drop o bytes)

-- the bytes, once a check finds that they are UTF-8
abbrev pub utf8_text : List ℕ → Reading (List ℕ)
utf8_text bytes = do
  _ ← check (is_utf8 bytes)
  done bytes

-- the zero-terminated string at offset o, whose zero byte must be present
unfoldable pub terminated_text : List ℕ → ℕ → Reading (List ℕ)
terminated_text bytes o = do
  _ ← expect_bytes bytes o (length (before_zero bytes o) + 1)
  text ← utf8_text (before_zero bytes o)
  _ ← memory
  done text

-- two strings, the first at offset o and the second after it
unfoldable pub two_texts : List ℕ → ℕ → Reading (List ℕ × List ℕ)
two_texts bytes o = do
  first ← terminated_text bytes o
  second ← terminated_text bytes (o + length first + 1)
  done (first, second)

-- the offset after two strings that begin at o
abbrev pub after_texts : ℕ → List ℕ × List ℕ → ℕ
after_texts o texts = o + length texts.0 + length texts.1 + 2

-- a string as it is written
abbrev pub text_and_zero : List ℕ → List ℕ
text_and_zero text = text ++ 0 ∷ []

-- a UTF-8 string with no zero byte in it
pub record IsTerminable (text : List ℕ) : Type 0 where
  pub utf8 : IsUtf8 text
  pub no_zero : list_any is_zero text ≡ false
