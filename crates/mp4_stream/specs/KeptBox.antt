-- A box that is kept: as an AnyBox if its name is that of one, and otherwise as its bytes.
use Rattle.std.specs.Prelude.{ℕ, List, Bool, not, if◌then◌else◌}
use Rattle.mp4_frame.specs.BoxType.{code_of, is_disguised}
use Rattle.mp4_frame.specs.Format.{Format}
use Rattle.mp4_frame.specs.Members.{Held, holds, format_held}
use Rattle.mp4_frame.specs.Reading.{Reading, map_reading, reading}
use Rattle.mp4_frame.specs.declared.box_type.BoxType.{BoxType}
use Rattle.mp4_stream.specs.AnyBox.{format_any, known_any, reading_any}
use Rattle.mp4_stream.specs.OtherBox.{format_other, reads_other}
use Rattle.mp4_stream.specs.declared.kept_box.KeptBox.{KeptBox}
use Rattle.mp4_stream.specs.declared.kept_box.KeptBox.TheVariants as kept

-- the format of a box's type, applied to the box
abbrev pub held_kept : KeptBox → Held KeptBox
held_kept (kept.Any b) = holds format_any kept.Any b
held_kept (kept.Other b) = holds format_other kept.Other b

abbrev pub format_kept : Format KeptBox
format_kept = format_held held_kept

-- Every name is known, except an UnknownBox that holds a named code.
abbrev pub known_kept : BoxType → Bool
known_kept name = not (is_disguised name)

abbrev pub reading_kept : BoxType → List ℕ → ℕ → ℕ → Reading KeptBox
reading_kept name bytes start size =
    if known_any name then map_reading kept.Any (reading_any name bytes start size) else map_reading kept.Other
    (reading (reads_other (code_of name)) bytes start size)
