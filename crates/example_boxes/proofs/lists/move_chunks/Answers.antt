use Rattle.std.proofs.Common.{rules, ◌+◌}
use Rattle.std.proofs.lemmas.List.Edits.{map_over_more}
use Rattle.example_boxes.proofs.lists.move_chunks.Goals as goal

pub loop-offset-preserved : goal.loop-offset-preserved
loop-offset-preserved c = search (rules, map_over_more (λ o. o + c.args.distance))
