use Rattle.std.proofs.Common.{◌∙◌, ap, sym, Result, Ok}
use Rattle.mp4_check.specs.Indexes.{index_found}
use Rattle.mp4_check.proofs.Outcomes.{if_some}
use Rattle.mp4_extra_samples.specs.declared.sidx.Sidx.{Sidx}
use Rattle.mp4_frame.specs.Reading.{Fault}
use Rattle.mp4_check.proofs.indexes.index_what.Goals as goal

pub returns-in-Ok-clause-value : goal.returns-in-Ok-clause-value
returns-in-Ok-clause-value g c =
    if_some c.args.walk.now.bytes c.read_at.ensures.value
    (λ file read. λ boxes length are.
    let value = rw c.in-Ok.is at (rw c.in_ok-sidx.ensures.ok at read) in
    c.index_found.ensures boxes length are
    ∙ ap (λ (v : Sidx). index_found boxes length c.args.found.now (Ok v)) c.deref.ensures
    ∙ sym (ap (λ (r : Result Sidx Fault). index_found boxes length c.args.found.now r) value))

pub returns-in-Err-clause-value : goal.returns-in-Err-clause-value
returns-in-Err-clause-value g c =
    if_some c.args.walk.now.bytes c.read_at.ensures.value
    (λ file read. λ boxes length are.
    let fault = rw c.in-Err.is at (rw c.in_ok-sidx.ensures.ok at read) in
    sym (ap (λ (r : Result Sidx Fault). index_found boxes length c.args.found.now r) fault.2))
