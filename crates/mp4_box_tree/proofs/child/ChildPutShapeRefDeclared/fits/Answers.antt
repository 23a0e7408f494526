use Rattle.std.proofs.Common.{rules}
use Rattle.mp4_box_tree.proofs.child.ChildPutShapeRefDeclared.fits.Goals as goal

pub returns : goal.returns
returns g c =
    let exact = g.met.T.ExactFields.exact c.args.value.now in
    Prim.search (rules, exact)
