-- No box that is passed is cut or without a size.
use Rattle.std.proofs.Common.{◌≡◌, drop}
use Rattle.std.specs.List.{list_any}
use Rattle.mp4_remux.specs.Sized.{is_unsized}
use Rattle.mp4_remux.proofs.edits.sized.has_unsized.Given as goal

abbrev pub invariant-loop-found : goal.invariant-loop-found
invariant-loop-found l =
    list_any (is_unsized l.bytes) (drop l.found-index l.boxes) ≡ list_any (is_unsized l.bytes) l.boxes
