use Rattle.std.proofs.Common.{◌≡◌, ◌+◌, ◌++◌, take}
use Rattle.mp4_c_boxes.specs.Sets.{lengths_of_sets}
use Rattle.mp4_c_boxes.proofs.sets.put_lengths.Given as goal

abbrev pub invariant-loop-set : goal.invariant-loop-set
invariant-loop-set l = record {
  offset : l.next ≡ l.at + l.set-index;
  written : take l.next l.out ≡ take l.at l.initial.out ++ lengths_of_sets (take l.set-index l.sets);
}
