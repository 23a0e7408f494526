-- All extents are in order if those that are left are, beginning at the last one.
use Rattle.std.proofs.Common.{drop}
use Rattle.mp4_check.specs.Media.{AreInOrder}
use Rattle.mp4_check.proofs.media.are_in_order.Given as goal

abbrev pub invariant-loop-extent : goal.invariant-loop-extent
invariant-loop-extent l = AreInOrder l.last (drop l.extent-index l.extents) → AreInOrder 0 l.extents
