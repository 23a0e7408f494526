use Rattle.std.proofs.Common.{refl}
use Rattle.mp4_remux_files.proofs.Tasks.{cut_between}
use Rattle.mp4_remux_files.proofs.cut.check_cut.Goals as goal

pub returns-clause-file : goal.returns-clause-file
returns-clause-file g c =
    cut_between c.args.times
    (record { from = c.args.times.from; to = c.args.times.to; origins = c.args.origins })
    (g.S.Source.all c.args.source) (g.T.Source.all c.args.again) c.in_ok-planned.planned.plan.value (refl, refl)
    c.in_ok-planned.ensures.part
