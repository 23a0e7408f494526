-- The pieces that are handed over and those that are left are all pieces.
use Rattle.std.proofs.Common.{◌≡◌}
use Rattle.std.specs.List.{fold}
use Rattle.mp4_shown.specs.Pieces.{piece_entries}
use Rattle.mp4_shown.proofs.pieces.put_pieces.Given as goal

abbrev pub invariant-loop-left : goal.invariant-loop-left
invariant-loop-left g l =
    fold g.K.FieldSink.after (g.K.FieldSink.trace l.sink)
    (piece_entries (g.P.Pieces.size_of l.pieces) (g.P.Pieces.shown l.pieces l.view) l.left l.rest)
    ≡ fold g.K.FieldSink.after (g.K.FieldSink.trace l.initial.sink)
    (piece_entries (g.P.Pieces.size_of l.pieces) (g.P.Pieces.shown l.pieces l.view) l.fn.count l.fn.bytes)

abbrev pub decreases-loop-left : goal.decreases-loop-left
decreases-loop-left g l = l.left
