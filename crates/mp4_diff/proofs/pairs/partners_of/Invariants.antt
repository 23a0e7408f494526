-- The earlier boxes are entered, and have their partners.
use Rattle.std.proofs.Common.{◌≡◌, [], fold, take, List}
use Rattle.mp4_content.specs.Paths.{AreOpen, entered}
use Rattle.mp4_diff.specs.Pairs.{AreNumbers, partners_of, paths}
use Rattle.mp4_diff.proofs.pairs.partners_of.Given as goal
use Rattle.mp4_walk.specs.declared.tree_box.TreeBox.{TreeBox}

abbrev pub invariant-boxes : goal.invariant-boxes
invariant-boxes l = record {
  opened : AreOpen (fold entered [] (take l.found-index l.boxes)) l.paths.levels.items;
  so_far : (others : List TreeBox) → AreNumbers others l.numbers
      → l.partners.items ≡ partners_of (paths (take l.found-index l.boxes)) (paths others);
}
