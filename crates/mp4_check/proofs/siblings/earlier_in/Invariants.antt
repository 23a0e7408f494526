-- The box is among the first `left` boxes, if there is one.
use Rattle.std.proofs.Common.{◌≡◌, ◌≤◌, length, reverse, take}
use Rattle.mp4_check.specs.Siblings.{earlier_in}
use Rattle.mp4_check.proofs.siblings.earlier_in.Given as goal

abbrev pub invariant-places : goal.invariant-places
invariant-places l = record {
  within : l.left ≤ length l.before;
  same :
      earlier_in l.depth l.parent l.group (reverse l.before)
      ≡ earlier_in l.depth l.parent l.group (reverse (take l.left l.before));
}

abbrev pub decreases-places : goal.decreases-places
decreases-places l = l.left
