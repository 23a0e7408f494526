-- The boxes that bytes in memory are.
use Rattle.std.specs.Prelude.{ℕ, ◌+◌, ◌==◌, ◌&&◌, Bool, not, nat_le, List, length, filter, None, Some}
use Rattle.std.specs.Prelude.{if◌then◌else◌}
use Rattle.std.specs.declared.option.Option.{Option}
use Rattle.std.specs.List.{list_any}
use Rattle.mp4_frame.specs.Bytes.{number}
use Rattle.mp4_walk.specs.FileBoxes.{boxes_of}
use Rattle.mp4_walk.specs.Tops.{is_whole}
use Rattle.mp4_walk.specs.declared.tree_box.TreeBox.{TreeBox}

-- the box at a position has an explicit size, and not the size 0 of a box that extends to the end of the file
abbrev pub has_size : List ℕ → ℕ → Bool
has_size B o = nat_le (o + 4) (length B) && not (number B o 4 == 0)

abbrev pub is_on_top : TreeBox → Bool
is_on_top x = x.depth == 0

-- the box is in the top level, and is cut or has no explicit size
abbrev pub is_unsized : List ℕ → TreeBox → Bool
is_unsized B x = is_on_top x && not (is_whole x.state && has_size B x.position)

-- the number of boxes that the bytes are, or none if one of them is cut or has no explicit size
abbrev pub sized_boxes : List ℕ → Option ℕ
sized_boxes B =
    if list_any (is_unsized B) (boxes_of B) then None else Some (length (filter is_on_top (boxes_of B)))
