-- The offsets before the index are moved.
use Rattle.std.proofs.Common.{◌≡◌, ◌+◌, ◌++◌, drop, map, take}
use Rattle.example_boxes.proofs.lists.move_chunks.Given as goal

abbrev pub invariant-loop-offset : goal.invariant-loop-offset
invariant-loop-offset l =
    l.offsets ≡ map (λ o. o + l.distance) (take l.offset-index l.initial.offsets)
    ++ drop l.offset-index l.initial.offsets
