-- The earlier boxes are entered, and those of them at the pattern are chosen.
use Rattle.std.proofs.Common.{◌≡◌, ◌++◌, [], drop, fold, take}
use Rattle.mp4_content.specs.Paths.{AreOpen, entered}
use Rattle.mp4_inspect.specs.Patterns.{boxes_at, first_of, taken_at}
use Rattle.mp4_inspect.proofs.chosen.boxes_at.Given as goal

abbrev pub invariant-boxes : goal.invariant-boxes
invariant-boxes l = record {
  opened : AreOpen (fold entered [] (take l.found-index l.boxes)) l.paths.levels.items;
  so_far : l.chosen.items
      ++ taken_at first_of l.pattern (fold entered [] (take l.found-index l.boxes)) (drop l.found-index l.boxes)
      ≡ boxes_at l.pattern l.boxes;
}
