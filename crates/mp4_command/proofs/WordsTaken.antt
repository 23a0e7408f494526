-- The first words of a command line, and their texts.
use Rattle.std.proofs.Common.{◌≡◌, ℕ, zero, suc, ◌+◌, List, [], ◌∷◌, ◌++◌, Bool, true, false, Option, None, Some}
use Rattle.std.proofs.Common.{IfSome, IsUtf8, cond, map, take, slice_get, refl, ap, ◌∙◌, sym, arith}
use Rattle.std.proofs.lemmas.List.{map_push}
use Rattle.std.proofs.lemmas.Str.{IsUtf8-from_is_utf8, is_utf8-from_IsUtf8}
use Rattle.std.specs.Str.{is_utf8}
use Rattle.mp4_command.specs.Words.{bytes_escaped, word_text}

-- the text of a word that is UTF-8, and of another
abbrev text_if : List ℕ → Bool → List ℕ
text_if bytes utf8 = cond utf8 bytes (bytes_escaped bytes ++ (0 ∷ []))

pub word_of_text : (bytes : List ℕ) → IsUtf8 bytes → word_text bytes ≡ bytes
word_of_text bytes utf8 = ap (text_if bytes) (is_utf8-from_IsUtf8 bytes utf8)

pub word_marked : (bytes : List ℕ) → ¬ (IsUtf8 bytes) → word_text bytes ≡ bytes_escaped bytes ++ (0 ∷ [])
word_marked bytes other = by_test (is_utf8 bytes) refl
  where
    by_test : (b : Bool) → is_utf8 bytes ≡ b → word_text bytes ≡ bytes_escaped bytes ++ (0 ∷ [])
    by_test true is = absurd (other (IsUtf8-from_is_utf8 bytes is))
    by_test false is = ap (text_if bytes) is

-- one more word
take_word : {X Y : Type 0} (f : X → Y) (words : List X) (k : ℕ) (word : X) → Some word ≡ slice_get words k
    → map f (take (suc k) words) ≡ map f (take k words) ++ (f word ∷ [])
take_word f [] k word is = absurd cc
take_word f (w ∷ ws) zero word is = let same : w ≡ word = cc in ap (λ x. f x ∷ []) same
take_word f (w ∷ ws) (suc k) word is = ap (λ ys. f w ∷ ys) (take_word f ws k word is)

-- the text of one more word is appended; `bytes_of` reads a text
pub words_step : {T : Type 0} (bytes_of : T → List ℕ) (all : Option (List (List ℕ))) (k : ℕ) (bytes : List ℕ)
    (before after : List T) (text : T) → IfSome all (λ words. map bytes_of before ≡ map word_text (take k words))
    → IfSome all (λ words. Some bytes ≡ slice_get words k) → bytes_of text ≡ word_text bytes
    → after ≡ before ++ (text ∷ []) → IfSome all (λ words. map bytes_of after ≡ map word_text (take (k + 1) words))
words_step bytes_of None k bytes before after text taken here is pushed = tt
words_step bytes_of (Some words) k bytes before after text taken here is pushed =
    let next : suc k ≡ k + 1 = omega arith in
    ap (map bytes_of) pushed
    ∙ map_push bytes_of before text
    ∙ (λ i. taken i ++ (is i ∷ []))
    ∙ sym (take_word word_text words k bytes here)
    ∙ ap (λ (n : ℕ). map word_text (take n words)) next
