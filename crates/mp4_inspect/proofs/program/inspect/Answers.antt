use Rattle.mp4_inspect.specs.Heading.{heading_of}
use Rattle.mp4_inspect.proofs.Boxes.{begins_unwritten}
use Rattle.mp4_inspect.proofs.program.inspect.Goals as goal

pub returns-in_err-heading-in-Tree-clause-beginning : goal.returns-in_err-heading-in-Tree-clause-beginning
returns-in_err-heading-in-Tree-clause-beginning g c =
    λ is.
    begins_unwritten g.B.Shown.known g.B.Shown.named_reading g.B.BoxFields.shown c.args.show.look
    c.from_residual.result (g.S.Source.all c.args.source) (heading_of c.args.show c.args.name.now)
    (g.W.Write.contents c.args.output.now.inner)
