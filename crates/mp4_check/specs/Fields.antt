-- Fields in the contents of boxes.
use Rattle.std.specs.Prelude.{ℕ, ◌+◌, ◌&&◌, nat_le, List, length, None, Some, if◌then◌else◌}
use Rattle.std.specs.declared.option.Option.{Option}
use Rattle.mp4_frame.specs.Bytes.{number}
use Rattle.mp4_movie.specs.Levels.{Found}
use Rattle.mp4_walk.specs.declared.tree_box.TreeBox.{TreeBox}

-- the number of w bytes at a position, if neither the box nor the file ends before it
abbrev pub number_before : List ℕ → TreeBox → ℕ → ℕ → Option ℕ
number_before file x at w =
    if nat_le (at + w) (x.position + x.length) && nat_le (at + w) (length file) then Some (number file at w) else None

-- the number of w bytes at offset o of the content of a box
abbrev pub field : List ℕ → TreeBox → ℕ → ℕ → Option ℕ
field file x o w = number_before file x (x.position + x.header_length + o) w

abbrev pub field_in : List ℕ → Option Found → ℕ → ℕ → Option ℕ
field_in file None o w = None
field_in file (Some f) o w = field file f.box o w
