use Rattle.mp4_remux.proofs.Beginnings.{read_and_written}
use Rattle.mp4_remux.proofs.pieces.write.copy_block.Goals as goal

pub returns-in-Ok-clause-bytes : goal.returns-in-Ok-clause-bytes
returns-in-Ok-clause-bytes g c =
    read_and_written (g.S.Source.all c.args.source.now) (g.W.Write.contents c.args.output.now.inner)
    (g.W.Write.contents c.write_all.new.output.inner) c.write_all.result c.args.at c.args.block.now c.read_at.new.buffer
    c.read_at.result c.in-Ok.field-0 c.in-Ok.is c.read_at.ensures.bytes c.read_at.auto.buffer c.write_all.ensures.bytes
