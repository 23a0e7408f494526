use Rattle.mp4_remux_files.proofs.EditedFiles.{tops_kept}
use Rattle.mp4_remux_files.proofs.edit_plans.plan_tops.Goals as goal

pub returns-clause-file : goal.returns-clause-file
returns-clause-file g c =
    tops_kept (g.S.Source.all c.args.source) (g.T.Source.all c.args.again) c.args.size c.args.all.items
    c.in_ok-plan.plan c.in_ok-planned.planned.plan.value c.in_ok-planned.ensures.plan c.in_ok-plan.ensures
    c.in_ok-planned.ensures.media
