-- The laws of strings.
use Rattle.std.proofs.Common.{◌≡◌, ℕ, Bool, true, false, cond, List, refl, ap}
use Rattle.std.proofs.lemmas.Str.{IsUtf8-from_is_utf8, is_utf8-from_IsUtf8}
use Rattle.std.specs.Str.{IsUtf8, is_utf8}
use Rattle.mp4_frame.specs.Text.{text_or}

-- bytes that are UTF-8 pass the check
pub utf8_passes : (bytes : List ℕ) → IsUtf8 bytes → is_utf8 bytes ≡ true
utf8_passes bytes is = is_utf8-from_IsUtf8 bytes is

no_pass : (bytes : List ℕ) (b : Bool) → (b ≡ true → IsUtf8 bytes) → ¬ (IsUtf8 bytes) → b ≡ false
no_pass bytes true is isnt = absurd (isnt (is refl))
no_pass bytes false is isnt = refl

pub other_fails : (bytes : List ℕ) → ¬ (IsUtf8 bytes) → is_utf8 bytes ≡ false
other_fails bytes isnt = no_pass bytes (is_utf8 bytes) (IsUtf8-from_is_utf8 bytes) isnt

-- for bytes that are UTF-8, text_or is those bytes
pub text_as_is : (other bytes : List ℕ) → IsUtf8 bytes → text_or other bytes ≡ bytes
unfolding text_or
text_as_is other bytes is = ap (λ (b : Bool). cond b bytes other) (utf8_passes bytes is)

-- for bytes that are not UTF-8, text_or is the other string
pub text_replaced : (other bytes : List ℕ) → ¬ (IsUtf8 bytes) → text_or other bytes ≡ other
unfolding text_or
text_replaced other bytes isnt = ap (λ (b : Bool). cond b bytes other) (other_fails bytes isnt)

chosen : (other bytes : List ℕ) (b : Bool) → (b ≡ true → IsUtf8 bytes) → IsUtf8 other → IsUtf8 (cond b bytes other)
chosen other bytes true is text = is refl
chosen other bytes false is text = text

-- text_or is UTF-8 if the other string is
pub IsUtf8-text_or : (other bytes : List ℕ) → IsUtf8 other → IsUtf8 (text_or other bytes)
unfolding text_or
IsUtf8-text_or other bytes text = chosen other bytes (is_utf8 bytes) (IsUtf8-from_is_utf8 bytes) text
