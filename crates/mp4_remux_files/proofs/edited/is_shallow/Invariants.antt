-- No box that is passed is in the span and less deep.
use Rattle.std.proofs.Common.{◌≡◌, drop}
use Rattle.std.specs.List.{list_any}
use Rattle.mp4_remux_files.specs.EditedMovie.{is_shallow}
use Rattle.mp4_remux_files.proofs.edited.is_shallow.Given as goal

abbrev pub invariant-loop-found : goal.invariant-loop-found
invariant-loop-found l =
    list_any (is_shallow l.span l.depth) (drop l.found-index l.boxes)
    ≡ list_any (is_shallow l.span l.depth) l.boxes
