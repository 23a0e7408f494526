use Rattle.std.proofs.Common.{List, ◌∙◌, ap}
use Rattle.std.proofs.lemmas.Option.{IfSome_then}
use Rattle.mp4_walk.specs.Paths.{at_path}
use Rattle.mp4_walk.specs.Walk.{left}
use Rattle.mp4_walk.specs.declared.tree_box.TreeBox.{TreeBox}
use Rattle.mp4_walk.proofs.Searches.{begins}
use Rattle.mp4_walk.proofs.finding.find.Goals as goal

pub loop-tree-init : goal.loop-tree-init
loop-tree-init g c =
    let path = c.args.path.now.parts.items in (
      c.in_ok-tree.ensures.bytes,
      IfSome_then c.in_ok-tree.tree.bytes c.in_ok-tree.ensures.boxes
          (λ B is. begins path (left B c.in_ok-tree.tree) ∙ ap (λ (xs : List TreeBox). at_path 0 path xs) is),
    )
