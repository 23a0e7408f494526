use Rattle.std.proofs.Common.{arith}
use Rattle.mp4_check.proofs.FileSteps.{fault_next, faults_end}
use Rattle.mp4_check.proofs.ShownFaults.{form_laws}
use Rattle.mp4_check.proofs.lines.write_all_faults.Goals as goal

pub loop-fault-init : goal.loop-fault-init
loop-fault-init g c = g.F.FaultForm.writes_none c.args.form c.args.told c.args.output.now

pub loop-fault-preserved : goal.loop-fault-preserved
loop-fault-preserved g c =
    let l = c.loop-fault in
    fault_next (g.F.FaultForm.writes c.args.form)
    (form_laws g.F.FaultForm.writes g.F.FaultForm.writes_none g.F.FaultForm.writes_more c.args.form) c.args.told
    l.written c.in_ok-more.more c.args.faults.now l.fault-index c.fault-item.result
    c.args.output.now l.output
    c.write.new.output (omega arith) c.fault-item.is l.invariant c.in_ok-more.ensures

pub returns : goal.returns
returns g c =
    let l = c.loop-fault in
    faults_end (g.F.FaultForm.writes c.args.form) c.args.told l.written c.args.faults.now l.fault-index
    c.args.output.now l.output (omega arith) l.invariant
