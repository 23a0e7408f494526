-- The faults that are appended to no others are all of them.
use Rattle.std.proofs.Common.{◌≡◌, ℕ, List, [], ◌++◌, length, ap, sym, subst, ◌∙◌}
use Rattle.mp4_c.specs.FaultRows.{AddsFaults, AreRows}
use Rattle.mp4_c.specs.declared.file_faults.FaultRow.{FaultRow}
use Rattle.mp4_c.specs.declared.file_faults.FoundFaults.{FoundFaults}
use Rattle.mp4_check.specs.FaultValues.{Value}

pub first_rows : (vs : List Value) (old new : FoundFaults) → AddsFaults vs old new → old.rows.items ≡ []
    → old.text.items ≡ [] → AreRows 0 vs new.rows.items new.text.items
first_rows vs old new (rows, text, are, rows_are, text_are) no_rows no_text =
    let same : new.rows.items ≡ rows = rows_are ∙ ap (λ (rs : List FaultRow). rs ++ rows) no_rows in
    let alike : new.text.items ≡ text = text_are ∙ ap (λ (xs : List ℕ). xs ++ text) no_text in
    let here : AreRows 0 vs rows text =
    subst (λ (xs : List ℕ). AreRows (length xs) vs rows text) no_text are in
    subst (λ (rs : List FaultRow). AreRows 0 vs rs new.text.items) (sym same)
    (subst (λ (xs : List ℕ). AreRows 0 vs rows xs) (sym alike) here)
