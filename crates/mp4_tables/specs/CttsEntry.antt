-- A row of ctts has 8 bytes: sample_count 4, and sample_offset 4, which is signed.
use Rattle.std.specs.Prelude.{ℕ, List, [], ◌∷◌, FitsSigned}
use Rattle.std.specs.Int.{w32, cast_signed, cast_unsigned}
use Rattle.mp4_frame.specs.Bytes.{number, bytes_of_fields, FieldsFit}
use Rattle.mp4_tables.specs.declared.ctts_entry.CttsEntry.{CttsEntry}

-- the entry, where `at o w` is the number of w bytes at offset o of its row
abbrev pub value_ctts_entry : (ℕ → ℕ → ℕ) → CttsEntry
value_ctts_entry at = record { sample_count = at 0 4; sample_offset = cast_signed w32 (at 4 4) }

abbrev pub entry_ctts : List ℕ → CttsEntry
entry_ctts row = value_ctts_entry (number row)

abbrev pub fields_ctts_entry : CttsEntry → List (ℕ × ℕ)
fields_ctts_entry e = (4, e.sample_count) ∷ (4, cast_unsigned w32 e.sample_offset) ∷ []

abbrev pub row_ctts : CttsEntry → List ℕ
row_ctts e = bytes_of_fields (fields_ctts_entry e)

abbrev pub FitsCttsEntry : CttsEntry → Type 0
FitsCttsEntry e = FieldsFit (fields_ctts_entry e) × FitsSigned w32 e.sample_offset
