-- The first bytes are added, and the next one is the `skip`th of the next piece.
use Rattle.std.proofs.Common.{◌≡◌, ◌+◌, ◌-◌, ◌≤◌, ◌++◌, ℕ, List, length, take, drop}
use Rattle.mp4_remux.specs.Pieces.{AreWithin, lengths, spelled}
use Rattle.mp4_remux.proofs.pieces.flat.add_range.Given as goal

abbrev pub invariant-loop-added : goal.invariant-loop-added
invariant-loop-added l = record {
  within : l.passed ≤ length l.first;
  room : l.added ≤ l.size;
  place : lengths (take l.passed l.first) + l.skip ≡ l.at + l.added;
  front : (B : List ℕ) → AreWithin (length B) l.first
      → spelled B l.flat ≡ spelled B l.initial.flat ++ take l.added (drop l.at (spelled B l.first));
}

abbrev pub decreases-loop-added : goal.decreases-loop-added
decreases-loop-added l = l.size - l.added + (length l.first - l.passed)
