-- The laws of boxes that a box can hold, which are those of boxes in lists.
use Rattle.std.specs.Prelude.{ℕ, Bool, List}
use Rattle.mp4_frame.specs.Format.{Format, IsWritten}
use Rattle.mp4_frame.specs.Laws.{OwnName, ReadsBack}
use Rattle.mp4_frame.specs.Reading.{Reading}
use Rattle.mp4_frame.specs.declared.box_type.BoxType.{BoxType}
use Rattle.mp4_compose.specs.Stable.{ReadsStably}

pub record IsChild {A : Type 0} (known : BoxType → Bool) (reading : BoxType → List ℕ → ℕ → ℕ → Reading A)
    (format : Format A) : Type 0 where
  pub written : IsWritten format
  pub own_name : (v : A) → format.Writable v → OwnName known (format.name v)
  pub read_back : (v : A) → format.Writable v → ReadsBack (reading (format.name v)) (format.bytes v) (format.normal v)
  pub stable : ReadsStably known reading format

-- these laws in one record
abbrev pub child_of : {A : Type 0} {known : BoxType → Bool} {reading : BoxType → List ℕ → ℕ → ℕ → Reading A}
    {format : Format A} → IsWritten format → ((v : A) → format.Writable v → OwnName known (format.name v))
    → ((v : A) → format.Writable v → ReadsBack (reading (format.name v)) (format.bytes v) (format.normal v))
    → ReadsStably known reading format → IsChild known reading format
child_of written own_name read_back stable =
    record { written = written; own_name = own_name; read_back = read_back; stable = stable }
