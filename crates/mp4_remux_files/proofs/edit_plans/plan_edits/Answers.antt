use Rattle.mp4_remux_files.proofs.EditedFiles.{edits_kept}
use Rattle.mp4_remux_files.proofs.edit_plans.plan_edits.Goals as goal

pub returns-clause-file : goal.returns-clause-file
returns-clause-file g c =
    edits_kept (g.S.Source.all c.args.source) (g.S.Source.all c.in_ok-source.source) (g.T.Source.all c.args.again)
    c.in_ok-source.size c.args.edits.now c.in_ok-source.named.hidden.items c.in_ok-source.named.splices.items
    c.in_ok-planned.planned.plan.value c.in_ok-source.ensures.source c.in_ok-source.ensures.length
    c.in_ok-source.ensures.named c.in_ok-source.ensures.order c.in_ok-planned.ensures.file
