-- The earlier boxes are inside, and they are appended.
use Rattle.std.proofs.Common.{◌≡◌, ◌+◌, ◌++◌, drop, map}
use Rattle.mp4_inspect.specs.Patterns.{lifted}
use Rattle.mp4_inspect.proofs.chosen.push_inside.Given as goal
use Rattle.mp4_walk.specs.Paths.{inside}

abbrev pub invariant-inside : goal.invariant-inside
invariant-inside l =
    l.tree.items ++ map (lifted l.depth) (inside (l.depth + 1) (drop l.found-index l.boxes))
    ≡ l.fn.tree.items ++ map (lifted l.depth) (inside (l.depth + 1) l.boxes)
