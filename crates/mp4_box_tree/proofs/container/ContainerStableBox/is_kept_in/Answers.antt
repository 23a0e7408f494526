use Rattle.mp4_box_tree.specs.ContainerLaws.{kept_container}
use Rattle.mp4_box_tree.proofs.container.ContainerStableBox.is_kept_in.Goals as goal

pub returns : goal.returns
returns g c =
    let whole = c.is_whole.ensures c.if-not-is_whole.false in
    λ yes. kept_container g.B.ChildBox.child_format g.met.B.ChildBox.child_laws.written g.B.ChildBox.child_known
    g.B.ChildBox.child_reading c.args._name c.args.bytes.now c.args.self.now c.requires whole
    (rw (c.bytes_from.ensures, c.len.ensures) at c.are_kept_in.ensures yes)
