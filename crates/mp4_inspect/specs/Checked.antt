-- The form of the faults of a file, and those that make the run fail.
use Rattle.std.specs.Prelude.{◌≡◌, ℕ, ◌&&◌, ◌||◌, Bool, List, None, Some, if◌then◌else◌}
use Rattle.std.specs.Borrow.{Bor}
use Rattle.std.specs.declared.option.Option.{Option}
use Rattle.mp4_check.specs.SampleFaults.{WritesAll}
use Rattle.mp4_check.specs.declared.lines.Form.{Form}
use Rattle.mp4_check.specs.declared.lines.Form.TheVariants as forms
use Rattle.mp4_check.specs.declared.lines.Told.{Told}
use Rattle.mp4_extra_samples.specs.declared.sidx.Sidx.{Sidx}
use Rattle.mp4_frame.specs.Reading.{Reading}
use Rattle.mp4_frame.specs.declared.box_type.BoxType.{BoxType}
use Rattle.mp4_inspect.specs.declared.program.Checked.{Checked}
use Rattle.mp4_inspect.specs.declared.program.Show.{Show}
use Rattle.mp4_inspect.specs.declared.request.Checks.{Checks}

-- objects with the name, or lines, which have the name if there are several files
abbrev pub form_of : Show → Bor (List ℕ) → Form
form_of show name =
    if show.checks.json then forms.Objects name else
    if show.several then forms.Lines (Some name) else forms.Lines None

-- an error, or a warning if these count
abbrev pub is_bad : Checks → Told → Bool
is_bad checks told = told.failures || (checks.strict && told.warnings)

-- The faults of a file are written, with those of its samples if these are checked, and no others. The run fails if one
-- of them is bad. Whether a fault of any file was written is known before and after. This is a record so that the proof
-- of a caller doesn't compute the faults.
pub record ChecksFile {A : Type 0} (known : BoxType → Bool) (reading : BoxType → List ℕ → ℕ → ℕ → Reading A)
    (reads_sidx : List ℕ → ℕ → ℕ → Reading Sidx) (form : Form) (checks : Checks) (file : List ℕ)
    (any : Bool) (old new : Option (List ℕ)) (checked : Checked) : Type 0 where
  pub told : Told
  pub writes : WritesAll known reading reads_sidx checks.media form any file old new told
  pub is_faulty : checked.faulty ≡ is_bad checks told
  pub any_after : checked.any ≡ told.any
