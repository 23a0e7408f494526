-- The first pieces are written.
use Rattle.std.proofs.Common.{◌≡◌, take, length}
use Rattle.std.specs.Prelude.{IfSome}
use Rattle.std.specs.Io.KnownBytes.{Appends}
use Rattle.mp4_remux.specs.Pieces.{spelled}
use Rattle.mp4_remux.proofs.pieces.write.write_all_pieces.Given as goal

abbrev pub invariant-loop-piece : goal.invariant-loop-piece
invariant-loop-piece g l = record {
  keeps : g.S.Source.all l.source ≡ g.S.Source.all l.initial.source;
  room : length l.buffer ≡ length l.initial.buffer;
  front : IfSome (g.S.Source.all l.initial.source)
      (λ B. Appends (g.W.Write.contents l.initial.output.inner) (g.W.Write.contents l.output.inner)
      (spelled B (take l.piece-index l.pieces)));
}
