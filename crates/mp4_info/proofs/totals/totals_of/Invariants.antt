-- The fragments starting at the index lead from the present totals to those of the track.
use Rattle.std.proofs.Common.{◌≡◌, drop}
use Rattle.mp4_info.specs.Totals.{totals_of, with_pieces}
use Rattle.mp4_info.proofs.totals.totals_of.Given as goal

abbrev pub invariant-loop-index : goal.invariant-loop-index
invariant-loop-index l = with_pieces l.after (drop l.index l.pieces) ≡ totals_of l.tables l.pieces
