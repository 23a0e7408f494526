-- The sets that were cut, followed by those of the remaining lengths and bytes, are all sets.
use Rattle.std.proofs.Common.{◌≡◌, ◌≤◌, ◌++◌, length, sum}
use Rattle.mp4_c_boxes.specs.Sets.{sets_of}
use Rattle.mp4_c_boxes.proofs.sets.sets_of.Given as goal

abbrev pub invariant-cut : goal.invariant-cut
invariant-cut l = record {
  room : sum l.left ≤ length l.rest;
  sets : l.sets ++ sets_of l.left l.rest ≡ sets_of l.lengths l.bytes;
}

abbrev pub decreases-cut : goal.decreases-cut
decreases-cut l = length l.left
