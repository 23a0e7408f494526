-- The fields that are read from the bytes of a box, as rows have them: a line for each.
use Rattle.std.specs.Prelude.{ℕ, List, [], ◌∷◌, slice_range}
use Rattle.mp4_frame.specs.Bytes.{number as uint}
use Rattle.mp4_show.specs.Fronts.{compressor, location}
use Rattle.mp4_show.specs.Row.{Part, number, text}

-- version and flags
abbrev pub head_row : List ℕ → List Part
head_row xs =
    number (uint xs 0 1)
    ∷ number (uint xs 1 3)
    ∷ []

-- the fields before the boxes of an `stsd` or a `dref`
abbrev pub list_row : List ℕ → List Part
list_row xs =
    number (uint xs 0 1)
    ∷ number (uint xs 1 3)
    ∷ number (uint xs 4 4)
    ∷ []

-- the field that all sample entries have
abbrev pub entry_row : List ℕ → List Part
entry_row xs =
    number (uint xs 6 2)
    ∷ []

-- the common fields of a sample entry of video
abbrev pub visual_row : List ℕ → List Part
visual_row xs =
    number (uint xs 6 2)
    ∷ number (uint xs 24 2)
    ∷ number (uint xs 26 2)
    ∷ number (uint xs 28 4)
    ∷ number (uint xs 32 4)
    ∷ number (uint xs 40 2)
    ∷ text (compressor (slice_range xs 42 74))
    ∷ number (uint xs 74 2)
    ∷ []

abbrev pub reference_row : List ℕ → List Part
reference_row xs =
    number (uint xs 0 1)
    ∷ number (uint xs 1 3)
    ∷ text (location xs)
    ∷ []
