-- The bytes up to a position are written.
use Rattle.std.proofs.Common.{◌≡◌, ◌-◌, ◌≤◌}
use Rattle.std.specs.Prelude.{IfSome}
use Rattle.std.specs.Io.KnownBytes.{Appends}
use Rattle.mp4_walk.specs.Source.{piece}
use Rattle.mp4_remux.proofs.pieces.write.copy_range.Given as goal

abbrev pub invariant-loop-at : goal.invariant-loop-at
invariant-loop-at g l = record {
  after : l.begin ≤ l.at;
  within : l.at - l.begin ≤ l.end - l.begin;
  keeps : g.S.Source.all l.source ≡ g.S.Source.all l.initial.source;
  front : IfSome (g.S.Source.all l.initial.source)
      (λ B. Appends (g.W.Write.contents l.initial.output.inner) (g.W.Write.contents l.output.inner)
      (piece B l.begin (l.at - l.begin)));
}

abbrev pub decreases-loop-at : goal.decreases-loop-at
decreases-loop-at g l = l.end - l.at
