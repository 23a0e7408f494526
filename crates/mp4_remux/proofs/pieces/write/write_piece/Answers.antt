use Rattle.mp4_remux.proofs.Beginnings.{new_written}
use Rattle.mp4_remux.proofs.pieces.write.write_piece.Goals as goal

pub returns-in-New-clause-bytes : goal.returns-in-New-clause-bytes
returns-in-New-clause-bytes g c =
    new_written (g.S.Source.all c.args.source.now) (g.W.Write.contents c.args.output.now.inner)
    (g.W.Write.contents c.write_all.new.output.inner) c.write_all.result c.args.piece.now c.in-New.bytes
    c.as_slice.result.now
    c.in-New.is c.as_slice.ensures.value c.write_all.ensures.bytes
