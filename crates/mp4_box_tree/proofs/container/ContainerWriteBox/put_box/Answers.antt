use Rattle.std.proofs.Common.{rules}
use Rattle.mp4_box_tree.specs.ContainerLaws.{boxes_long}
use Rattle.mp4_box_tree.proofs.container.ContainerWriteBox.put_box.Goals as goal

pub put_children-requires-clause-room : goal.put_children-requires-clause-room
put_children-requires-clause-room g c =
    let long =
    boxes_long g.B.ChildBox.child_format g.met.B.ChildBox.child_laws.written c.args.self.now c.requires.writable in
    Prim.search (rules, long)
