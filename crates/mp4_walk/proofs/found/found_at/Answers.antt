use Rattle.mp4_walk.proofs.Steps.{later_after}
use Rattle.mp4_walk.proofs.found.found_at.Goals as goal

pub returns-in-Ok-clause-inside : goal.returns-in-Ok-clause-inside
returns-in-Ok-clause-inside c =
    let after = later_after c.args.window.now c.args.level c.args.at c.in-Ok.head c.found_of_head.result
    c.requires.inside c.requires.within c.in-Ok.ensures.fault c.found_of_head.ensures in
    (after.0, after.1, after.2)

pub returns-in-Ok-clause-near : goal.returns-in-Ok-clause-near
returns-in-Ok-clause-near c =
    (later_after c.args.window.now c.args.level c.args.at c.in-Ok.head c.found_of_head.result c.requires.inside
    c.requires.within c.in-Ok.ensures.fault c.found_of_head.ensures).3
