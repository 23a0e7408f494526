-- The rest of the run is in the pieces that are left.
use Rattle.std.proofs.Common.{◌≡◌, drop}
use Rattle.mp4_remux.specs.Pieces.{carried}
use Rattle.mp4_remux.proofs.pieces.carried.carries.Given as goal

abbrev pub invariant-loop-piece : goal.invariant-loop-piece
invariant-loop-piece l =
    carried (drop l.piece-index l.pieces) l.run ≡ carried l.pieces (record { at = l.at; size = l.size; from = l.from })
