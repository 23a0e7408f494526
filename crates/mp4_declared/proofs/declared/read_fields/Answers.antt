use Rattle.std.proofs.Common.{arith}
use Rattle.mp4_declared.specs.OwnBoxLaws.{declared_short}
use Rattle.mp4_declared.proofs.declared.read_fields.Goals as goal

pub returns-then-bytes-saturating_add : goal.returns-then-bytes-saturating_add
returns-then-bytes-saturating_add g c =
    λ start.
    declared_short g.T.Shape.Shape.shape g.T.Shape.Shape.shape_laws g.T.DeclaredBox.layout
    g.met.T.DeclaredBox.valid c.args.bytes.now start c.args.size
    (omega (arith, c.if-bytes-saturating_add.true, c.front.ensures, c.saturating_add.ensures))
