-- The new bytes of the splices that are passed are there.
use Rattle.std.proofs.Common.{take}
use Rattle.std.specs.List.{AllZip}
use Rattle.mp4_remux_files.specs.EditedMovie.{IsPut}
use Rattle.mp4_remux_files.proofs.edited.are_put.Given as goal

abbrev pub invariant-loop-index : goal.invariant-loop-index
invariant-loop-index l =
    AllZip (IsPut l.new l.boxes l.were l.are) (take l.index l.splices) (take l.index l.spans)
