-- The fault of a failed end, and the text of a fault.
use Rattle.std.specs.Prelude.{ℕ, List, codes}
use Rattle.mp4_frame.specs.declared.error.Error.TheVariants as errors
use Rattle.mp4_boxes.specs.declared.fault.RunFault.{RunFault}
use Rattle.mp4_io.specs.declared.failure.Failure.{Failure}
use Rattle.mp4_io.specs.declared.failure.Failure.TheVariants as failures
use Rattle.mp4_boxes.specs.declared.fault.RunFault.TheVariants as faults

-- the fault of a failure
abbrev pub fault_of : Failure → RunFault
fault_of failures.Read = faults.Read
fault_of failures.Write = faults.Write
fault_of failures.Memory = faults.Boxes errors.OutOfMemory

-- the text of each kind of fault
abbrev pub fault_text : RunFault → List ℕ
fault_text faults.Read = codes "read failed"
fault_text faults.Write = codes "write failed"
fault_text (faults.Boxes errors.IoError) = codes "end of input"
fault_text (faults.Boxes (errors.InvalidData _)) = codes "invalid data"
fault_text (faults.Boxes errors.OutOfMemory) = codes "out of memory"
fault_text (faults.Boxes _) = codes "dref not found"
