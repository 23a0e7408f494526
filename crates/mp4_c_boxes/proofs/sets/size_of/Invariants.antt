use Rattle.std.proofs.Common.{◌≡◌, ◌-◌, ◌^◌, min, take}
use Rattle.mp4_c_boxes.specs.Sets.{size_of_sets}
use Rattle.mp4_c_boxes.proofs.sets.size_of.Given as goal

abbrev pub invariant-loop-set : goal.invariant-loop-set
invariant-loop-set l = l.size ≡ min (size_of_sets (take l.set-index l.sets)) (2 ^ 64 - 1)
