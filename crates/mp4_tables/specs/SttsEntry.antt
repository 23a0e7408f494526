-- A row of stts has 8 bytes: sample_count 4, sample_delta 4.
use Rattle.std.specs.Prelude.{ℕ, List, [], ◌∷◌}
use Rattle.mp4_frame.specs.Bytes.{number, bytes_of_fields, FieldsFit}
use Rattle.mp4_tables.specs.declared.stts_entry.SttsEntry.{SttsEntry}

-- the entry, where `at o w` is the number of w bytes at offset o of its row
abbrev pub value_stts_entry : (ℕ → ℕ → ℕ) → SttsEntry
value_stts_entry at = record { sample_count = at 0 4; sample_delta = at 4 4 }

abbrev pub entry_stts : List ℕ → SttsEntry
entry_stts row = value_stts_entry (number row)

abbrev pub fields_stts_entry : SttsEntry → List (ℕ × ℕ)
fields_stts_entry e = (4, e.sample_count) ∷ (4, e.sample_delta) ∷ []

abbrev pub row_stts : SttsEntry → List ℕ
row_stts e = bytes_of_fields (fields_stts_entry e)

abbrev pub FitsSttsEntry : SttsEntry → Type 0
FitsSttsEntry e = FieldsFit (fields_stts_entry e)
