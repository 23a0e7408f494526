use Rattle.std.proofs.Common.{◌∙◌, refl}
use Rattle.mp4_remux.proofs.Beginnings.{piece_written, piece_failed, no_pieces}
use Rattle.mp4_remux.proofs.pieces.write.write_all_pieces.Goals as goal

pub loop-piece-init : goal.loop-piece-init
loop-piece-init g c = record {
  keeps = refl;
  room = refl;
  front = no_pieces (g.S.Source.all c.args.source.now) (g.W.Write.contents c.args.output.now.inner) c.args.pieces.now;
}

pub loop-piece-preserved : goal.loop-piece-preserved
loop-piece-preserved g c =
    let inv = c.loop-piece.invariant in
    record {
      keeps = c.write_piece.ensures.keeps ∙ inv.keeps;
      room = c.write_piece.auto.buffer ∙ inv.room;
      front = piece_written (g.S.Source.all c.args.source.now) (g.S.Source.all c.loop-piece.source)
          (g.W.Write.contents c.args.output.now.inner) (g.W.Write.contents c.loop-piece.output.inner)
          (g.W.Write.contents c.write_piece.new.output.inner) c.args.pieces.now c.loop-piece.piece-index
          c.piece-item.result c.write_piece.result c.in-Ok.field-0 c.in-Ok.is inv.keeps c.loop-piece-test.true
          c.piece-item.is inv.front c.write_piece.ensures.bytes;
    }

pub returns-in-Err-clause-bytes : goal.returns-in-Err-clause-bytes
returns-in-Err-clause-bytes g c =
    let inv = c.loop-piece.invariant in
    piece_failed (g.S.Source.all c.args.source.now) (g.S.Source.all c.loop-piece.source)
    (g.W.Write.contents c.args.output.now.inner) (g.W.Write.contents c.loop-piece.output.inner)
    (g.W.Write.contents c.write_piece.new.output.inner) c.args.pieces.now c.loop-piece.piece-index
    c.piece-item.result c.write_piece.result c.in-Err.failure c.in-Err.is inv.keeps c.loop-piece-test.true
    c.piece-item.is inv.front c.write_piece.ensures.bytes
