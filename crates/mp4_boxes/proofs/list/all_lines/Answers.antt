use Rattle.std.proofs.Common.{◌∙◌}
use Rattle.mp4_boxes.proofs.Listed.{all_listed}
use Rattle.mp4_boxes.proofs.list.all_lines.Goals as goal

pub returns-then-next-read-clause-lines : goal.returns-then-next-read-clause-lines
returns-then-next-read-clause-lines c B all known =
    all_listed B c.args.lines.items c.args.next (c.if-next-read.true ∙ all) known.0
