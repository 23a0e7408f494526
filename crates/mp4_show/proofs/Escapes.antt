-- Texts whose characters are shown by their numbers, one character at a time.
use Rattle.std.proofs.Common.{◌≡◌, ℕ, List, [], ◌∷◌, ◌++◌, Bool, true, false, ◌||◌, cond, refl, ap, ◌∙◌}
use Rattle.std.proofs.Common.{length, flat_map, IsUtf8, encode_utf8, encode_utf8_all}
use Rattle.std.proofs.lemmas.List.{nil_from_length}
use Rattle.std.proofs.lemmas.Str.{chars-nil, chars_past_char, encodes-chars}
use Rattle.std.specs.List.{list_any}
use Rattle.std.specs.Str.{chars}
use Rattle.mp4_show.specs.Escaped.{is_escaped, number_in, shown_char, escaped, text_escaped}
use Rattle.mp4_show.specs.declared.escape.Form.{Form}
use Rattle.mp4_show.specs.declared.escape.Form.TheVariants as forms

pub escaped_empty : (form : Form) (text : List ℕ) → length text ≡ 0 → escaped form text ≡ []
unfolding escaped
escaped_empty form text none = rw (nil_from_length text none, chars-nil)

pub escaped_step : (form : Form) (text rest : List ℕ) (c : ℕ) → IsUtf8 text → text ≡ encode_utf8 c ++ rest
    → escaped form text ≡ shown_char form c ++ escaped form rest
unfolding escaped
escaped_step form text rest c utf8 parts = rw (chars_past_char text rest c utf8 parts)

pub text_escaped_empty : (text : List ℕ) → length text ≡ 0 → text_escaped text ≡ []
text_escaped_empty = escaped_empty forms.Text

-- whether one of the characters is shown by its number
pub any_empty : (text : List ℕ) → length text ≡ 0 → list_any is_escaped (chars text) ≡ false
any_empty text none = rw (nil_from_length text none, chars-nil)

pub any_step : (text rest : List ℕ) (c : ℕ) → IsUtf8 text → text ≡ encode_utf8 c ++ rest
    → list_any is_escaped (chars text) ≡ (is_escaped c || list_any is_escaped (chars rest))
any_step text rest c utf8 parts = rw (chars_past_char text rest c utf8 parts)

-- one that isn't is shown as it is
plain_char : (form : Form) (c : ℕ) → is_escaped c ≡ false → shown_char form c ≡ encode_utf8 c
unfolding shown_char
plain_char form c plain = ap (λ (b : Bool). cond b (number_in form c) (encode_utf8 c)) plain

plain_chars : (form : Form) (cs : List ℕ) → list_any is_escaped cs ≡ false
    → flat_map (shown_char form) cs ≡ encode_utf8_all cs
plain_chars form [] plain = refl
plain_chars form (c ∷ cs) plain =
    let (here, there) = neither (is_escaped c) (list_any is_escaped cs) plain in
    λ i. plain_char form c here i ++ plain_chars form cs there i
  where
    neither : (a b : Bool) → (a || b) ≡ false → (a ≡ false) × (b ≡ false)
    neither false b e = (refl, e)
    neither true b e = cc

-- a text with no such characters is shown as it is
pub plain_text : (form : Form) (text : List ℕ) → IsUtf8 text → list_any is_escaped (chars text) ≡ false
    → escaped form text ≡ text
unfolding escaped
plain_text form text utf8 plain = plain_chars form (chars text) plain ∙ encodes-chars text utf8
