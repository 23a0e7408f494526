-- The boxes that are passed are filtered.
use Rattle.std.proofs.Common.{◌≡◌, take}
use Rattle.mp4_remux_files.specs.EditedMovie.{kept}
use Rattle.mp4_remux_files.proofs.edited.kept.Given as goal

abbrev pub invariant-loop-item : goal.invariant-loop-item
invariant-loop-item l = l.found.items ≡ kept l.splices (take l.item-index l.boxes)
