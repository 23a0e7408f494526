-- The boxes that are passed are the same, except for offsets, which follow the shift.
use Rattle.std.proofs.Common.{take}
use Rattle.std.specs.List.{AllZip}
use Rattle.mp4_remux_files.specs.Movie.{IsBoxAfter}
use Rattle.mp4_remux_files.proofs.compare.are_boxes_after.Given as goal

abbrev pub invariant-loop-index : goal.invariant-loop-index
invariant-loop-index g l =
    AllZip (IsBoxAfter (g.F.Shift.after l.shift) l.old l.new) (take l.index l.were) (take l.index l.are)
