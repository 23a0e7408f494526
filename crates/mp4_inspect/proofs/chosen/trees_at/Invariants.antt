-- The earlier boxes are entered, and the trees of those at the pattern are appended.
use Rattle.std.proofs.Common.{◌≡◌, ◌++◌, [], drop, fold, take}
use Rattle.mp4_content.specs.Paths.{AreOpen, entered}
use Rattle.mp4_inspect.specs.Patterns.{taken_at, tree_of, trees_at}
use Rattle.mp4_inspect.proofs.chosen.trees_at.Given as goal

abbrev pub invariant-boxes : goal.invariant-boxes
invariant-boxes l = record {
  opened : AreOpen (fold entered [] (take l.index l.boxes)) l.paths.levels.items;
  so_far : l.shown.items
      ++ taken_at tree_of l.pattern (fold entered [] (take l.index l.boxes)) (drop l.index l.boxes)
      ≡ trees_at l.pattern l.boxes;
}
