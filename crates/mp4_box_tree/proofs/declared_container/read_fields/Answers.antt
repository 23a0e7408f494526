use Rattle.std.proofs.Common.{arith}
use Rattle.mp4_declared.specs.OwnBoxLaws.{declared_short}
use Rattle.mp4_box_tree.proofs.declared_container.read_fields.Goals as goal

pub returns-then-whole-saturating_add-clause-value : goal.returns-then-whole-saturating_add-clause-value
returns-then-whole-saturating_add-clause-value g c =
    declared_short g.T.Shape.Shape.shape g.T.Shape.Shape.shape_laws g.T.DeclaredBox.layout g.met.T.DeclaredBox.valid
    c.args.whole.now 0 c.args.size
    (omega (arith, c.if-whole-saturating_add.true, c.front.ensures, c.saturating_add.ensures))
