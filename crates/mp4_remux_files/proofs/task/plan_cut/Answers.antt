use Rattle.mp4_remux_files.proofs.Tasks.{part_made}
use Rattle.mp4_remux_files.proofs.task.plan_cut.Goals as goal

pub returns-clause-file : goal.returns-clause-file
returns-clause-file g c =
    part_made c.args.times (g.S.Source.all c.args.first) (g.T.Source.all c.args.second) _
    c.in_ok-planned.planned.plan.value c.in_ok-planned.ensures.file
