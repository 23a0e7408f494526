-- The faults before the current one are written.
use Rattle.std.proofs.Common.{take}
use Rattle.mp4_check.specs.FaultValues.{values_of}
use Rattle.mp4_check.specs.Lines.{Writes}
use Rattle.mp4_check.proofs.lines.write_all_faults.Given as goal

abbrev pub invariant-loop-fault : goal.invariant-loop-fault
invariant-loop-fault g l =
    g.F.FaultForm.writes l.form l.fn.told (values_of (take l.fault-index l.faults)) l.fn.output
    l.output l.written
