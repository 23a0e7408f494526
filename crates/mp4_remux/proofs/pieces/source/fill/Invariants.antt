-- The first bytes are read, and the next one is the `skip`th of the next piece.
use Rattle.std.proofs.Common.{◌≡◌, ◌+◌, ◌-◌, ◌≤◌, length, take}
use Rattle.std.specs.Prelude.{IfSome}
use Rattle.mp4_walk.specs.Source.{IsWindow}
use Rattle.mp4_remux.specs.Pieces.{lengths, spelled}
use Rattle.mp4_remux.proofs.pieces.source.fill.Given as goal

abbrev pub invariant-loop-filled : goal.invariant-loop-filled
invariant-loop-filled g l = record {
  within : l.passed ≤ length l.plan;
  long : length l.buffer ≡ length l.initial.buffer;
  room : l.filled ≤ length l.buffer;
  place : lengths (take l.passed l.plan) + l.skip ≡ l.at + l.filled;
  keeps : g.S.Source.all l.old ≡ g.S.Source.all l.initial.old;
  front : IfSome (g.S.Source.all l.initial.old) (λ B. IsWindow (spelled B l.plan) l.at (take l.filled l.buffer));
}

abbrev pub decreases-loop-filled : goal.decreases-loop-filled
decreases-loop-filled g l = length l.buffer - l.filled + (length l.plan - l.passed)
