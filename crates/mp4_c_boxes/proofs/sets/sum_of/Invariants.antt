use Rattle.std.proofs.Common.{◌≡◌, ◌-◌, ◌^◌, min, take, sum}
use Rattle.mp4_c_boxes.proofs.sets.sum_of.Given as goal

abbrev pub invariant-loop-length : goal.invariant-loop-length
invariant-loop-length l = l.total ≡ min (sum (take l.length-index l.lengths)) (2 ^ 64 - 1)
