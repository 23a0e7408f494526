use Rattle.mp4_remux_files.proofs.Tasks.{task_stopped, task_written}
use Rattle.mp4_remux_files.proofs.task.carry_out.Goals as goal

pub returns-in-Ok : goal.returns-in-Ok
returns-in-Ok g c =
    task_written c.args.task (g.S.Source.all c.args.first) (g.T.Source.all c.args.second)
    (g.S.Source.all c.in-Ok.planned.source) c.in-Ok.done c.in-Ok.planned.plan.value
    (g.W.Write.contents c.args.output.now.inner) (g.W.Write.contents c.write_done.new.output.inner) c.write_done.result
    c.in-Ok.ensures.source c.in-Ok.ensures.file c.write_done.ensures

pub returns-in-Err : goal.returns-in-Err
returns-in-Err g c =
    task_stopped c.args.task (g.S.Source.all c.args.first) (g.T.Source.all c.args.second)
    (g.W.Write.contents c.args.output.now.inner) c.in-Err.stop
