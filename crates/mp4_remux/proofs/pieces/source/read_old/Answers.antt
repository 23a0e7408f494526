use Rattle.std.proofs.Common.{arith}
use Rattle.mp4_remux.proofs.Windows.{range_read}
use Rattle.mp4_remux.proofs.pieces.source.read_old.Goals as goal

pub returns-clause-bytes : goal.returns-clause-bytes
returns-clause-bytes g c =
    let same = c.read_at.auto.buffer in
    let within = c.requires in
    range_read (g.S.Source.all c.args.old.now) c.args.begin c.args.end c.args.skip c.read_at.new.buffer c.read_at.result
    (omega (arith, same, within)) c.read_at.ensures.bytes
