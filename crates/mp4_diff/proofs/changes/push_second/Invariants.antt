-- The earlier boxes are entered, and those of them that only the second file has are appended.
use Rattle.std.proofs.Common.{◌≡◌, ◌++◌, [], fold, take, List}
use Rattle.mp4_content.specs.Paths.{AreOpen, entered}
use Rattle.mp4_diff.specs.Differences.{only_second_in, places_of}
use Rattle.mp4_diff.specs.Pairs.{AreNumbers, paths}
use Rattle.mp4_diff.proofs.changes.push_second.Given as goal
use Rattle.mp4_walk.specs.declared.tree_box.TreeBox.{TreeBox}

abbrev pub invariant-boxes : goal.invariant-boxes
invariant-boxes l = record {
  opened : AreOpen (fold entered [] (take l.found-index l.boxes)) l.paths.levels.items;
  so_far : (first : List TreeBox) → AreNumbers first l.others → places_of l.changes.items
      ≡ places_of l.fn.changes.items ++ only_second_in (paths first) (paths (take l.found-index l.boxes));
}
