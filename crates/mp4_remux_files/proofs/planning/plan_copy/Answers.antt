use Rattle.mp4_remux_files.proofs.Plans.{copied}
use Rattle.mp4_remux_files.proofs.planning.plan_copy.Goals as goal

pub returns : goal.returns
returns c = copied c.args.size c.new-plan.result c.push.new.plan c.new-plan.ensures c.in_ok-push.ensures
