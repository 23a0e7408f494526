-- Bytes as text, one sequence of bytes that are not text at a time.
use Rattle.std.proofs.Common.{◌≡◌, ℕ, zero, suc, ◌+◌, ◌≤◌, ◌<◌, List, [], ◌++◌, length, take, drop, flat_map}
use Rattle.std.proofs.Common.{refl, sym, ap, ◌∙◌, ⊎_elim, append_assoc, append-nil, eq-or-lt_of_le, arith}
use Rattle.std.proofs.lemmas.Bool.{eq-eqb, ne_eqb}
use Rattle.std.proofs.lemmas.List.{length-append, take_at, drop_at, nil_from_length}
use Rattle.std.proofs.lemmas.Str.{utf8_valid_len_le}
use Rattle.std.specs.Str.Lossy.{utf8_valid_len, utf8_invalid_len, after_first_chunk}
use Rattle.std.proofs.str.Lossy.{length-after_first_chunk}
use Rattle.mp4_show.specs.Escaped.{text_escaped}
use Rattle.mp4_show.proofs.Escapes.{text_escaped_empty}
use Rattle.mp4_command.specs.Words.{byte_escaped, first_text, after_text, not_text, bytes_escaped_within, bytes_escaped}

-- the text of bytes that are not all text, if `rest` is that of the bytes after the first that are not
abbrev then_rest : List ℕ → List ℕ → List ℕ
then_rest bytes rest = text_escaped (first_text bytes) ++ (flat_map byte_escaped (not_text bytes) ++ rest)

within_text : (k : ℕ) (bytes : List ℕ) → utf8_valid_len bytes ≡ length bytes
    → bytes_escaped_within k bytes ≡ text_escaped bytes
within_text zero bytes whole = refl
within_text (suc k) bytes whole = rw (eq-eqb _ _ whole)

within_fault : (k : ℕ) (bytes : List ℕ) → ¬ (utf8_valid_len bytes ≡ length bytes)
    → bytes_escaped_within (suc k) bytes ≡ then_rest bytes (bytes_escaped_within k (after_first_chunk bytes))
within_fault k bytes faulty = rw (ne_eqb _ _ faulty)

-- any bound from the length up gives the same text
within_any : (k j : ℕ) (bytes : List ℕ) → length bytes ≤ k → length bytes ≤ j
    → bytes_escaped_within k bytes ≡ bytes_escaped_within j bytes
within_any zero j bytes p q =
    let within = utf8_valid_len_le bytes in sym (within_text j bytes (omega arith))
within_any (suc k) zero bytes p q =
    let within = utf8_valid_len_le bytes in within_text (suc k) bytes (omega arith)
within_any (suc k) (suc j) bytes p q =
    ⊎_elim
    (λ whole. within_text (suc k) bytes whole ∙ sym (within_text (suc j) bytes whole))
    (λ short.
    let faulty : ¬ (utf8_valid_len bytes ≡ length bytes) = omega arith in
    let less = length-after_first_chunk bytes faulty in
    within_fault k bytes faulty
    ∙ ap (then_rest bytes) (within_any k j (after_first_chunk bytes) (omega arith) (omega arith))
    ∙ sym (within_fault j bytes faulty))
    (eq-or-lt_of_le (utf8_valid_len_le bytes))

escaped_whole : (bytes : List ℕ) → utf8_valid_len bytes ≡ length bytes → bytes_escaped bytes ≡ text_escaped bytes
unfolding bytes_escaped
escaped_whole bytes whole = within_text (length bytes) bytes whole

escaped_fault : (bytes : List ℕ) → ¬ (utf8_valid_len bytes ≡ length bytes)
    → bytes_escaped bytes ≡ then_rest bytes (bytes_escaped (after_first_chunk bytes))
unfolding bytes_escaped
escaped_fault bytes faulty =
    let less = length-after_first_chunk bytes faulty in
    let after = after_first_chunk bytes in
    within_any (length bytes) (suc (length bytes)) bytes (omega arith) (omega arith)
    ∙ within_fault (length bytes) bytes faulty
    ∙ ap (then_rest bytes) (within_any (length bytes) (length after) after (omega arith) (omega arith))

-- nothing is left
pub bytes_escaped_empty : (bytes : List ℕ) → length bytes ≡ 0 → bytes_escaped bytes ≡ []
bytes_escaped_empty bytes none =
    let within = utf8_valid_len_le bytes in
    escaped_whole bytes (omega arith) ∙ text_escaped_empty bytes none

-- a chunk with bytes that are not text
chunk_with_fault : (bytes valid invalid rest : List ℕ) → bytes ≡ valid ++ (invalid ++ rest)
    → length valid ≡ utf8_valid_len bytes → length invalid ≡ utf8_invalid_len (drop (utf8_valid_len bytes) bytes)
    → 0 < length invalid
    → bytes_escaped bytes ≡ text_escaped valid ++ (flat_map byte_escaped invalid ++ bytes_escaped rest)
chunk_with_fault bytes valid invalid rest parts valid_len invalid_len some =
    let n = utf8_valid_len bytes in
    let total = ap length parts ∙ length-append valid (invalid ++ rest) in
    let faulty : ¬ (n ≡ length bytes) = omega (arith, length-append invalid rest) in
    let front : first_text bytes ≡ valid = ap (take n) parts ∙ take_at valid (invalid ++ rest) n valid_len in
    let back : after_text bytes ≡ invalid ++ rest = ap (drop n) parts ∙ drop_at valid (invalid ++ rest) n valid_len in
    let k = utf8_invalid_len (after_text bytes) in
    let middle : not_text bytes ≡ invalid = ap (take k) back ∙ take_at invalid rest k invalid_len in
    let both : length (valid ++ invalid) ≡ n + k = omega (arith, length-append valid invalid) in
    let after : after_first_chunk bytes ≡ rest =
    ap (drop (n + k)) (parts ∙ sym (append_assoc valid invalid rest)) ∙ drop_at (valid ++ invalid) rest (n + k) both in
    escaped_fault bytes faulty
    ∙ (λ i. text_escaped (front i) ++ (flat_map byte_escaped (middle i) ++ bytes_escaped (after i)))

-- the last chunk, if all of its bytes are text
chunk_of_text : (bytes valid invalid rest : List ℕ) → bytes ≡ valid ++ (invalid ++ rest)
    → length valid ≡ utf8_valid_len bytes → length invalid ≡ 0 → length rest ≡ 0
    → bytes_escaped bytes ≡ text_escaped valid ++ (flat_map byte_escaped invalid ++ bytes_escaped rest)
chunk_of_text bytes valid invalid rest parts valid_len none last =
    let no_invalid = nil_from_length invalid none in
    let no_rest = nil_from_length rest last in
    let whole : bytes ≡ valid = parts ∙ (λ i. valid ++ (no_invalid i ++ no_rest i)) ∙ append-nil valid in
    let long = ap length whole in
    escaped_whole bytes (omega arith)
    ∙ ap text_escaped whole
    ∙ sym (append-nil (text_escaped valid))
    ∙ (λ i. text_escaped valid ++ (flat_map byte_escaped (sym no_invalid i) ++ sym (bytes_escaped_empty rest last) i))

-- a chunk of `utf8_chunks`, which cuts the bytes into valid, invalid and rest
pub bytes_escaped_chunk : (bytes valid invalid rest : List ℕ) → bytes ≡ valid ++ (invalid ++ rest)
    → length valid ≡ utf8_valid_len bytes → length invalid ≡ utf8_invalid_len (drop (utf8_valid_len bytes) bytes)
    → (length invalid ≡ 0 → length rest ≡ 0)
    → bytes_escaped bytes ≡ text_escaped valid ++ (flat_map byte_escaped invalid ++ bytes_escaped rest)
bytes_escaped_chunk bytes valid invalid rest parts valid_len invalid_len last =
    of_length (length invalid) refl
  where
    of_length : (n : ℕ) → length invalid ≡ n
        → bytes_escaped bytes ≡ text_escaped valid ++ (flat_map byte_escaped invalid ++ bytes_escaped rest)
    of_length zero e = chunk_of_text bytes valid invalid rest parts valid_len e (last e)
    of_length (suc n) e = chunk_with_fault bytes valid invalid rest parts valid_len invalid_len (omega (arith, e))
