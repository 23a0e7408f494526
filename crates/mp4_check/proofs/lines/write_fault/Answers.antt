use Rattle.std.proofs.Common.{◌≡◌, ◌∙◌, ap, rules}
use Rattle.mp4_check.specs.Codes.{severity_of}
use Rattle.mp4_check.specs.FaultValues.{value_of}
use Rattle.mp4_check.specs.Lines.{IsShown, told_after}
use Rattle.mp4_check.specs.declared.fault.Severity.{Severity}
use Rattle.mp4_check.specs.declared.fault.Code.{Code}
use Rattle.mp4_check.proofs.ShownFaults.{writes_one}
use Rattle.mp4_check.proofs.lines.write_fault.Goals as goal

pub returns : goal.returns
returns g c =
    let form = c.args.form in
    let v = value_of c.args.fault.now in
    let shown : IsShown form v c.in_ok-text.text.items = rw c.in_ok-text.ensures.ok at c.text_of.ensures in
    let same : c.as_bytes.result.now ≡ c.between.result.now = search rules in
    let told = c.told_after.ensures
    ∙ ap (λ (s : Severity). told_after c.args.told s)
    (c.severity.ensures ∙ ap (λ (k : Code). severity_of k) c.code.ensures) in
    writes_one form c.args.told c.told_after.result v c.as_bytes.result.now c.in_ok-text.text.items
    (g.W.Write.contents c.args.output.now.inner) (g.W.Write.contents c.write_all.new.output.inner)
    (g.W.Write.contents c.write_all-2.new.output.inner) shown (same ∙ c.between.ensures)
    c.in_ok-write_all.ensures.bytes (rw c.deref.ensures.value at c.in_ok-write_all-2.ensures.bytes) told
