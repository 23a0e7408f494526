-- No box that is passed begins there.
use Rattle.std.proofs.Common.{◌≡◌, drop}
use Rattle.std.specs.List.{list_any}
use Rattle.mp4_remux_files.specs.EditedMovie.{is_box_at}
use Rattle.mp4_remux_files.proofs.edited.is_box_at.Given as goal

abbrev pub invariant-loop-found : goal.invariant-loop-found
invariant-loop-found l =
    list_any (is_box_at l.at l.depth) (drop l.found-index l.boxes) ≡ list_any (is_box_at l.at l.depth) l.boxes
