-- The bytes that are passed are the same, except in holes.
use Rattle.std.proofs.Common.{◌≡◌, ℕ, ◌<◌, false}
use Rattle.std.specs.Prelude.{slice_index}
use Rattle.mp4_remux.specs.Holes.{in_holes}
use Rattle.mp4_remux.proofs.pieces.holes.are_equal_except.Given as goal

abbrev pub invariant-loop-index : goal.invariant-loop-index
invariant-loop-index l =
    (i : ℕ) → i < l.index → in_holes l.holes i ≡ false → slice_index l.new i ≡ slice_index l.old i
