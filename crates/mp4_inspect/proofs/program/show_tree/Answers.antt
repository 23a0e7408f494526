use Rattle.mp4_inspect.proofs.Boxes.{begins_unwritten}
use Rattle.mp4_inspect.proofs.program.show_tree.Goals as goal

pub returns-in_err-walk-clause-beginning : goal.returns-in_err-walk-clause-beginning
returns-in_err-walk-clause-beginning g c =
    begins_unwritten g.B.Shown.known g.B.Shown.named_reading g.B.BoxFields.shown c.args.look
    c.from_residual.result (g.S.Source.all c.args.source) c.args.heading.now
    (g.W.Write.contents c.args.output.now.inner)
