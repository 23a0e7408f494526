-- The byte is in no hole that is passed.
use Rattle.std.proofs.Common.{◌≡◌, drop}
use Rattle.mp4_remux.specs.Holes.{in_holes}
use Rattle.mp4_remux.proofs.pieces.holes.is_in_hole.Given as goal

abbrev pub invariant-loop-hole : goal.invariant-loop-hole
invariant-loop-hole l = in_holes (drop l.hole-index l.holes) l.at ≡ in_holes l.holes l.at
