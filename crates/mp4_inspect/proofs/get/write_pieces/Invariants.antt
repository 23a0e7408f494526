-- The bytes before the position are written.
use Rattle.std.proofs.Common.{◌≡◌, ◌+◌, ◌++◌, ℕ, List}
use Rattle.std.specs.Prelude.{IfSome}
use Rattle.std.specs.Io.KnownBytes.{Appends}
use Rattle.mp4_walk.specs.Source.{piece}
use Rattle.mp4_inspect.proofs.get.write_pieces.Given as goal

abbrev pub invariant-pieces : goal.invariant-pieces
invariant-pieces g l = record {
  ends : l.at + l.left ≡ l.start + l.size;
  kept : l.walk ≡ l.fn.walk;
  so_far : IfSome l.fn.walk.bytes (λ file.
      (text : List ℕ) × Appends (g.W.Write.contents l.fn.output.inner) (g.W.Write.contents l.output.inner) text
      × (text ++ piece file l.at l.left ≡ piece file l.start l.size));
}

abbrev pub decreases-pieces : goal.decreases-pieces
decreases-pieces g l = l.left
