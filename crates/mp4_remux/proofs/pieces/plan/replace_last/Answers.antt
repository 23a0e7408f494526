use Rattle.mp4_remux.proofs.Plans.{ends_set}
use Rattle.mp4_remux.proofs.pieces.plan.replace_last.Goals as goal

pub returns-clause-ends : goal.returns-clause-ends
returns-clause-ends c =
    ends_set c.args.pieces.now.items c.args.ends.now.items c.args.piece c.args.last c.args.end c.requires.last
    c.requires.ends c.requires.end
