use Rattle.std.proofs.Common.{◌≡◌, ◌-◌, ◌∙◌, length}
use Rattle.std.proofs.lemmas.List.Edits.{length-between}
use Rattle.mp4_remux.proofs.Windows.{middle_read}
use Rattle.mp4_remux.proofs.pieces.source.read_middle.Goals as goal

pub returns-clause-bytes : goal.returns-clause-bytes
returns-clause-bytes g c =
    let same : length c.read_part.new.buffer ≡ c.args.end - c.args.filled =
    c.read_part.auto.buffer ∙ length-between c.args.buffer.now c.args.filled c.args.end c.requires.within in
    middle_read (g.S.Source.all c.args.old.now) c.args.piece.now c.args.skip c.args.filled c.args.end c.args.buffer.now
    c.read_part.new.buffer c.read_part.result c.requires.order c.requires.within same c.read_part.ensures.bytes
