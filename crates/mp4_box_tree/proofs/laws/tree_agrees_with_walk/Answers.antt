use Rattle.std.proofs.Common.{length}
use Rattle.mp4_walk.specs.Peek.{peek}
use Rattle.mp4_box_tree.specs.Agreement.{fronts_agree}
use Rattle.mp4_box_tree.proofs.laws.tree_agrees_with_walk.Goals as goal

pub returns : goal.returns
returns c =
    λ is. fronts_agree c.args.around c.args.code (peek c.args.content.now 0 (length c.args.content.now)) is
