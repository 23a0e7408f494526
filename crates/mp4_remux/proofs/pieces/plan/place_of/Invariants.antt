-- The place is not past the byte.
use Rattle.std.proofs.Common.{◌≡◌, ◌-◌, ◌≤◌, List, length, take}
use Rattle.mp4_remux.specs.declared.pieces.piece.Piece.{Piece}
use Rattle.mp4_remux.specs.Pieces.{lengths}
use Rattle.mp4_remux.specs.Plans.{AreEnds}
use Rattle.mp4_remux.proofs.pieces.plan.place_of.Given as goal

abbrev pub invariant-loop-place : goal.invariant-loop-place
invariant-loop-place l = record {
  low : l.place.passed ≤ length l.ends;
  high : l.high ≤ length l.ends;
  before : (ps : List Piece) → AreEnds ps l.ends → l.place.before ≡ lengths (take l.place.passed ps);
  order : l.place.before ≤ l.at;
}

abbrev pub decreases-loop-place : goal.decreases-loop-place
decreases-loop-place l = l.high - l.place.passed
