use Rattle.mp4_remux_files.proofs.Tasks.{tables_made}
use Rattle.mp4_remux_files.proofs.task.plan_joined.Goals as goal

pub returns-clause-file : goal.returns-clause-file
returns-clause-file g c =
    tables_made (g.S.Source.all c.args.first) (g.T.Source.all c.args.second) _ _ c.in_ok-planned.planned.plan.value
    c.in_ok-planned.ensures.form
