use Rattle.mp4_remux.proofs.FlatPlans.{range_part}
use Rattle.mp4_remux.proofs.pieces.flat.range_of.Goals as goal

pub returns : goal.returns
returns c B = range_part B c.args.begin c.args.end c.args.skip c.args.size c.requires
