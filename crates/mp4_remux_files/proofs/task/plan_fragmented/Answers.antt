use Rattle.mp4_remux_files.proofs.Tasks.{fragments_made}
use Rattle.mp4_remux_files.proofs.task.plan_fragmented.Goals as goal

pub returns-clause-file : goal.returns-clause-file
returns-clause-file g c =
    fragments_made (g.S.Source.all c.args.first) (g.T.Source.all c.args.second) _ c.in_ok-planned.planned.plan.value
    c.in_ok-planned.ensures.form
