use Rattle.std.proofs.Common.{◌≡◌, ◌-◌, ◌^◌, map, min, sum}
use Rattle.example_boxes.proofs.lists.size_of_samples.Given as goal

abbrev pub invariant-loop-size : goal.invariant-loop-size
invariant-loop-size l = l.total ≡ min (sum (map (λ x. x.now) l.yielded)) (2 ^ 64 - 1)
