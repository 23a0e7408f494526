-- The laws of the rows of faults: they may be appended in parts.
use Rattle.std.proofs.Common.{◌≡◌, ℕ, ◌+◌, List, [], ◌∷◌, ◌++◌, length, refl, sym, ap, subst, ◌∙◌, arith, append_assoc}
use Rattle.std.proofs.Common.{append-nil, length-append}
use Rattle.mp4_c.specs.FaultRows.{AddsFaults, AreRows, fault_row}
use Rattle.mp4_c.specs.declared.file_faults.FaultRow.{FaultRow}
use Rattle.mp4_c.specs.declared.file_faults.FoundFaults.{FoundFaults}
use Rattle.mp4_check.specs.FaultValues.{Value}
use Rattle.mp4_content.specs.PathTexts.{path_shown}

rows_append : (at next : ℕ) (vs ws : List Value) (rows more : List FaultRow) (text other : List ℕ)
    → next ≡ at + length text → AreRows at vs rows text → AreRows next ws more other
    → AreRows at (vs ++ ws) (rows ++ more) (text ++ other)
rows_append at next [] ws rows more text other is (no_rows, no_text) are =
    let none : length text ≡ 0 = ap (λ (xs : List ℕ). length xs) no_text in
    let same : next ≡ at = omega (arith, is, none) in
    let here : AreRows at ws more other = subst (λ (n : ℕ). AreRows n ws more other) same are in
    let with_rows : AreRows at ws (rows ++ more) other =
    subst (λ (rs : List FaultRow). AreRows at ws rs other)
    (sym (ap (λ (rs : List FaultRow). rs ++ more) no_rows)) here in
    subst (λ (t : List ℕ). AreRows at ws (rows ++ more) t) (sym (ap (λ (xs : List ℕ). xs ++ other) no_text)) with_rows
rows_append at next (v ∷ vs) ws rows more text other is (words, rest, own, are_own, rows_are, text_is) are =
    let path = path_shown v.path in
    let long : length text ≡ length path + (length words + length rest) =
    ap (λ (xs : List ℕ). length xs) text_is ∙ length-append path (words ++ rest)
    ∙ ap (λ (n : ℕ). length path + n) (length-append words rest) in (
      words,
      rest ++ other,
      own ++ more,
      rows_append (at + length path + length words) next vs ws own more rest other (omega (arith, is, long)) are_own
          are,
      ap (λ (rs : List FaultRow). rs ++ more) rows_are,
      ap (λ (xs : List ℕ). xs ++ other) text_is
          ∙ append_assoc path (words ++ rest) other
          ∙ ap (λ (xs : List ℕ). path ++ xs) (append_assoc words rest other),
    )

-- No fault is appended.
pub adds_none : (found : FoundFaults) → AddsFaults [] found found
adds_none found = (
  [],
  [],
  (refl, refl),
  sym (append-nil found.rows.items),
  sym (append-nil found.text.items),
)

-- Some faults are appended, and then others.
pub adds_more : (vs ws : List Value) (a b c : FoundFaults) → AddsFaults vs a b → AddsFaults ws b c
    → AddsFaults (vs ++ ws) a c
adds_more vs ws a b c (rows, text, are, b_rows, b_text) (more, other, are_more, c_rows, c_text) =
    let next : length b.text.items ≡ length a.text.items + length text =
    ap (λ (xs : List ℕ). length xs) b_text ∙ length-append a.text.items text in (
      rows ++ more,
      text ++ other,
      rows_append (length a.text.items) (length b.text.items) vs ws rows more text other next are are_more,
      c_rows ∙ ap (λ (rs : List FaultRow). rs ++ more) b_rows ∙ append_assoc a.rows.items rows more,
      c_text ∙ ap (λ (xs : List ℕ). xs ++ other) b_text ∙ append_assoc a.text.items text other,
    )
