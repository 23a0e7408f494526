use Rattle.std.proofs.Common.{◌≡◌, ◌≤◌, ◌∙◌, Some, ap, arith, rules}
use Rattle.mp4_lemmas.proofs.Outcomes.{both_known}
use Rattle.mp4_content.proofs.PieceSteps.{piece_next}
use Rattle.mp4_inspect.proofs.get.write_pieces.Goals as goal
use Rattle.mp4_walk.specs.Source.{piece}
use Rattle.mp4_walk.specs.Walk.{Walk}

pub pieces-preserved : goal.pieces-preserved
pieces-preserved g c =
    let l = c.pieces in
    let le : c.min-count.result ≤ l.left = search rules in
    record {
      ends = omega (arith, le, l.invariant.ends);
      kept = c.in_ok-write_piece.ensures.kept ∙ l.invariant.kept;
      so_far = both_known c.args.walk.now.bytes l.walk.bytes (ap (λ (w : Walk). w.bytes) l.invariant.kept)
          l.invariant.so_far c.in_ok-write_piece.ensures.bytes
          (λ file so_far more. piece_next file (g.W.Write.contents c.args.output.now.inner)
          (g.W.Write.contents l.output.inner) (g.W.Write.contents c.write_piece.new.output.inner) l.at
          c.min-count.result l.left (piece file c.args.start c.args.size) le so_far more);
    }
