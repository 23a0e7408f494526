use Rattle.std.proofs.Common.{◌≡◌, ◌∙◌, Some}
use Rattle.mp4_c.proofs.FirstRows.{first_rows}
use Rattle.mp4_c.proofs.file_faults.faults_in.Goals as goal
use Rattle.mp4_c.specs.declared.file_faults.FoundFaults.{FoundFaults}
use Rattle.mp4_check.proofs.Outcomes.{some_at}

pub returns : goal.returns
returns g c =
    let file = c.args.bytes.now in
    let opened : c.in_ok-walk.walk.bytes ≡ Some file = rw c.in_ok-walk.ensures.ok at c.new.ensures.bytes in
    let left = some_at c.in_ok-walk.walk.bytes file _ opened (rw c.in_ok-walk.ensures.ok at c.new.ensures.boxes) in
    let listed = some_at c.in_ok-walk.walk.bytes file _ opened (rw c.in_ok-boxes.ensures.ok at c.rest.ensures.boxes) in
    let written = some_at c.rest.new.self.bytes file _ (c.rest.ensures.bytes ∙ opened)
    c.in_ok-write_faults_as.ensures.check (c.deref.ensures.value ∙ (listed ∙ left)) in
    let start : FoundFaults = record { rows = c.new-2.result; text = c.new-3.result } in
    record { are = first_rows _ start c.write_faults_as.new.output written c.new-2.ensures.items c.new-3.ensures.items }
