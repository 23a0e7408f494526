-- The bytes after the pieces that are left are those after all pieces.
use Rattle.std.proofs.Common.{◌≡◌}
use Rattle.mp4_shown.specs.Pieces.{bytes_after}
use Rattle.mp4_shown.proofs.pieces.bytes_after.Given as goal

abbrev pub invariant-loop-left : goal.invariant-loop-left
invariant-loop-left g l =
    bytes_after (g.P.Pieces.size_of l.pieces) l.left l.rest
    ≡ bytes_after (g.P.Pieces.size_of l.pieces) l.fn.count l.fn.bytes

abbrev pub decreases-loop-left : goal.decreases-loop-left
decreases-loop-left g l = l.left
