-- A file in its other form: with all samples in fragments, or with all samples in tables.
use Rattle.std.specs.Prelude.{ℕ, ◌≡◌, ◌<◌, List, None, Some, Ok}
use Rattle.std.specs.declared.option.Option.{Option}
use Rattle.mp4_frame.specs.FourCC.{four_cc_of}
use Rattle.mp4_frame.specs.declared.codes.TheConstants as codes
use Rattle.mp4_movie.specs.Levels.{first_in}
use Rattle.mp4_movie.specs.Movies.{samples_of}
use Rattle.mp4_movie.specs.declared.sample_boxes.SampleBoxes.{SampleBoxes}
use Rattle.mp4_walk.specs.FileBoxes.{boxes_of}
use Rattle.mp4_remux.specs.Told.{at_track}
use Rattle.mp4_remux.specs.Whole.{KeepsMedia, track_count}
use Rattle.mp4_remux.specs.declared.forms.form.Form.{Form}
use Rattle.mp4_remux.specs.declared.forms.form.Form.TheVariants as forms

-- the number of samples in tables, if there are any
abbrev pub listed : Option SampleBoxes → ℕ
listed None = 0
listed (Some tables) = tables.stsz.sample_count

-- the tables of track n of the file C list no samples
abbrev pub HasEmptyTables : List ℕ → ℕ → Type 0
HasEmptyTables C n = (tables : Option SampleBoxes) × (at_track samples_of C n ≡ Ok tables) × (listed tables ≡ 0)

-- the tables of the file C list no samples: all samples are in fragments
abbrev pub IsFragmented : List ℕ → Type 0
IsFragmented C = (n : ℕ) → n < track_count C → HasEmptyTables C n

-- the file C has no `moof` in its top level: all samples are in tables
abbrev pub IsJoined : List ℕ → Type 0
IsJoined C = first_in 0 (four_cc_of codes.MOOF) (boxes_of C) ≡ None

abbrev pub HasForm : Form → List ℕ → Type 0
HasForm forms.Fragments C = IsFragmented C
HasForm forms.Tables C = IsJoined C

-- the file C has this form, and keeps every sample of the file B
pub record ChangesForm (f : Form) (B C : List ℕ) : Type 0 where
  pub media : KeepsMedia B C
  pub form : HasForm f C
