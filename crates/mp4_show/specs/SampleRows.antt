-- The fields of the tables of samples and of their entries, as rows have them: a line for each.
use Rattle.std.specs.Prelude.{List, [], ◌∷◌}
use Rattle.mp4_tables.specs.declared.ctts_entry.CttsEntry.{CttsEntry}
use Rattle.mp4_tables.specs.declared.stsc_entry.StscEntry.{StscEntry}
use Rattle.mp4_tables.specs.declared.stsz.StszBox.{StszBox}
use Rattle.mp4_tables.specs.declared.stts_entry.SttsEntry.{SttsEntry}
use Rattle.mp4_show.specs.Row.{Part, number, signed}

-- the fields before the list
abbrev pub stsz_row : StszBox → List Part
stsz_row b =
    number b.version
    ∷ number b.flags
    ∷ number b.sample_size
    ∷ number b.sample_count
    ∷ []

abbrev pub delta_row : SttsEntry → List Part
delta_row x =
    number x.sample_count
    ∷ number x.sample_delta
    ∷ []

abbrev pub offset_row : CttsEntry → List Part
offset_row x =
    number x.sample_count
    ∷ signed x.sample_offset
    ∷ []

abbrev pub chunks_row : StscEntry → List Part
chunks_row x =
    number x.first_chunk
    ∷ number x.samples_per_chunk
    ∷ number x.sample_description_index
    ∷ number x.first_sample
    ∷ []
