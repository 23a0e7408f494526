use Rattle.std.proofs.Common.{◌≡◌, ℕ, ◌+◌, ◌<◌, List, [], ◌∷◌, ◌++◌, take, length, string_bytes, get_or, sym, ap, ◌∙◌}
use Rattle.std.proofs.Common.{append_assoc, append-nil, rules}
use Rattle.std.specs.Prelude.{encode_utf8}
use Rattle.std.proofs.lemmas.List.{take_more}
use Rattle.mp4_shown_json.specs.Tokens.{code_text}
use Rattle.mp4_shown_json.proofs.code.push_latin.Goals as goal

-- one more character
text_more : (xs : List ℕ) (c : ℕ) → code_text (xs ++ c ∷ []) ≡ code_text xs ++ encode_utf8 c
text_more [] c = append-nil (encode_utf8 c)
text_more (x ∷ xs) c =
    ap (λ (t : List ℕ). encode_utf8 x ++ t) (text_more xs c)
    ∙ sym (append_assoc (encode_utf8 x) (code_text xs) (encode_utf8 c))

-- the first characters, and one more
text_taken : (xs : List ℕ) (i c : ℕ) (text : List ℕ) → i < length xs
    → (text ++ code_text (take i xs)) ++ encode_utf8 (get_or xs i c) ≡ text ++ code_text (take (i + 1) xs)
text_taken xs i c text inside =
    append_assoc text (code_text (take i xs)) (encode_utf8 (get_or xs i c))
    ∙ ap (λ (t : List ℕ). text ++ t)
    (sym (ap code_text (take_more xs i c inside) ∙ text_more (take i xs) (get_or xs i c)))

pub loop-byte-preserved : goal.loop-byte-preserved
loop-byte-preserved c =
    let put : string_bytes c.push.new.self ≡ string_bytes c.loop-byte.out ++ encode_utf8 c.from.result = search rules in
    let next : c.from.result ≡ get_or c.args.code.value c.loop-byte.byte-index 0 = search rules in
    let inside : c.loop-byte.byte-index < length c.args.code.value = search rules in
    let before = string_bytes c.args.out.now ++ code_text (take c.loop-byte.byte-index c.args.code.value) in
    put
    ∙ ap (λ (t : List ℕ). t ++ encode_utf8 c.from.result) c.loop-byte.invariant
    ∙ ap (λ (n : ℕ). before ++ encode_utf8 n) next
    ∙ text_taken c.args.code.value c.loop-byte.byte-index 0 (string_bytes c.args.out.now) inside
