use Rattle.mp4_remux_files.proofs.FastStarts.{moved_kept}
use Rattle.mp4_remux_files.proofs.fast_starts.plan_moved.Goals as goal

pub returns-clause-file : goal.returns-clause-file
returns-clause-file g c =
    moved_kept (g.S.Source.all c.args.source) (g.S.Source.all c.in_ok-source.source) (g.T.Source.all c.args.again)
    c.args.size c.args.shift c.in_ok-source.plan c.in_ok-planned.planned.plan.value c.in_ok-source.ensures.source
    c.in_ok-planned.ensures.plan c.in_ok-source.ensures.plan c.in_ok-planned.ensures.media
