-- A row of stsc has 12 bytes: first_chunk 4, samples_per_chunk 4, sample_description_index 4. The first sample is
-- not written.
use Rattle.std.specs.Prelude.{ℕ, List, [], ◌∷◌}
use Rattle.mp4_frame.specs.Bytes.{number, bytes_of_fields, FieldsFit}
use Rattle.mp4_tables.specs.declared.stsc_entry.StscEntry.{StscEntry}

-- the entry, whose first sample is not yet computed, where `at o w` is the number of w bytes at offset o of its row
abbrev pub value_stsc_entry : (ℕ → ℕ → ℕ) → StscEntry
value_stsc_entry at =
    record { first_chunk = at 0 4; samples_per_chunk = at 4 4; sample_description_index = at 8 4; first_sample = 0 }

abbrev pub entry_stsc : List ℕ → StscEntry
entry_stsc row = value_stsc_entry (number row)

abbrev pub fields_stsc_entry : StscEntry → List (ℕ × ℕ)
fields_stsc_entry e = (4, e.first_chunk) ∷ (4, e.samples_per_chunk) ∷ (4, e.sample_description_index) ∷ []

abbrev pub row_stsc : StscEntry → List ℕ
row_stsc e = bytes_of_fields (fields_stsc_entry e)

abbrev pub FitsStscEntry : StscEntry → Type 0
FitsStscEntry e = FieldsFit (fields_stsc_entry e)
