-- The boxes that are passed are filtered.
use Rattle.std.proofs.Common.{◌≡◌, take}
use Rattle.mp4_remux_files.specs.EditedMovie.{beside}
use Rattle.mp4_remux_files.proofs.edited.beside.Given as goal

abbrev pub invariant-loop-item : goal.invariant-loop-item
invariant-loop-item l = l.found.items ≡ beside l.spans (take l.item-index l.boxes)
