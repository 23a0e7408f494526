use Rattle.std.proofs.Common.{rules}
use Rattle.mp4_box_tree.specs.DeclaredContainerLaws.{boxes_long}
use Rattle.mp4_box_tree.proofs.declared_container.DeclaredContainerWriteBox.put_box.Goals as goal

pub put_children-requires-clause-room : goal.put_children-requires-clause-room
put_children-requires-clause-room g c =
    let long =
    boxes_long g.T.Shape.Shape.shape g.T.Shape.Shape.shape_laws g.T.DeclaredBox.layout g.met.T.DeclaredBox.valid
    g.met.T.ContainerFields.has_end g.met.B.ChildBox.child_laws c.args.self.now c.requires.writable in
    Prim.search (rules, long)
