use Rattle.std.proofs.Common.{◌∙◌, ap}
use Rattle.std.specs.declared.option.Option.{Option}
use Rattle.mp4_check.specs.FaultValues.{fault_at}
use Rattle.mp4_content.specs.Paths.{in_file}
use Rattle.mp4_check.specs.declared.fault.What.{What}
use Rattle.mp4_check.proofs.Outcomes.{if_some, passed_on}
use Rattle.mp4_check.proofs.faults.index_faults.Goals as goal
use Rattle.mp4_frame.specs.declared.codes.TheConstants as names

pub returns-clause-value : goal.returns-clause-value
returns-clause-value g c =
    if_some c.args.walk.now.bytes c.in_ok-what.ensures.value
    (λ file read. λ boxes length are.
    passed_on c.one_fault.result c.or_memory.result c.or_memory.ensures.ok c.one_fault.ensures
    (λ faults told.
    told
    ∙ ap (λ (w : Option What). fault_at c.args.found.now.position (in_file names.SIDX c.args.number) w)
    (read boxes length are)))
