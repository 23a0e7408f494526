-- The result of the search in the remaining boxes is the box at the path. Each iteration takes some of the remaining
-- bytes.
use Rattle.std.proofs.Common.{◌≡◌}
use Rattle.std.specs.Prelude.{IfSome}
use Rattle.mp4_walk.specs.Paths.{at_path}
use Rattle.mp4_walk.specs.Search.{sought}
use Rattle.mp4_walk.specs.FileBoxes.{boxes_of}
use Rattle.mp4_walk.specs.Walk.{bytes_left, left}
use Rattle.mp4_walk.proofs.finding.find.Given as goal

abbrev pub invariant-loop-tree : goal.invariant-loop-tree
invariant-loop-tree g l =
    (l.tree.bytes ≡ g.S.Source.all l.fn.source)
    × IfSome l.tree.bytes
    (λ B. sought l.path.parts.items l.search (left B l.tree) ≡ at_path 0 l.path.parts.items (boxes_of B))

abbrev pub decreases-loop-tree : goal.decreases-loop-tree
decreases-loop-tree g l = bytes_left l.tree
