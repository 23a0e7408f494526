use Rattle.std.proofs.Common.{◌≡◌, ◌+◌, ◌++◌, take}
use Rattle.mp4_c_boxes.specs.Sets.{bytes_of_sets, size_of_sets}
use Rattle.mp4_c_boxes.proofs.sets.put_sets.Given as goal

abbrev pub invariant-loop-set : goal.invariant-loop-set
invariant-loop-set l = record {
  offset : l.next ≡ l.at + size_of_sets (take l.set-index l.sets);
  written : take l.next l.out ≡ take l.at l.initial.out ++ bytes_of_sets (take l.set-index l.sets);
}
