use Rattle.std.proofs.Common.{◌≡◌, ◌∙◌, [], None, Some, Ok, Err, ap, arith, inl, refl, rules, string_bytes}
use Rattle.mp4_c.proofs.JsonFaults.{fault_told, no_text, text_read}
use Rattle.mp4_c.proofs.from_json.check_json.Goals as goal
use Rattle.mp4_shown.specs.declared.taken.error.Reason.TheVariants as reasons

pub returns-in_default : goal.returns-in_default
returns-in_default g c =
    let read = g.B.FromJson.taken c.args.code in
    fault_told read c.args.json.now ([], reasons.NotJson) c.tell_fault.result c.args.text.now c.tell_fault.new.text
    c.args.fault.now c.tell_fault.new.fault (no_text read c.args.json.now c.in_default.ensures.cases.0)
    c.tell_fault.ensures

pub returns-in-Ok-Some : goal.returns-in-Ok-Some
returns-in-Ok-Some g c =
    let read = g.B.FromJson.taken c.args.code in
    let value = c.in-Ok-Some.field-0-0 in
    let takes =
    text_read read c.args.json.now c.in-Ok.given.now (Ok (Some value)) c.in-Ok.ensures.cases
    (rw c.in-Ok-Some.field-0-is at c.in-Ok-Some.ensures) in
    inl (Ok (Some value), (takes, (refl, inl (refl, record { fit = omega arith; front = refl }))))

pub returns-in-Ok-None : goal.returns-in-Ok-None
returns-in-Ok-None g c =
    let read = g.B.FromJson.taken c.args.code in
    let takes =
    text_read read c.args.json.now c.in-Ok.given.now (Ok None) c.in-Ok.ensures.cases
    (rw c.in-Ok-None.field-0-is at c.in-Ok-None.ensures) in
    inl (Ok None, (takes, (refl, (refl, refl))))

pub returns : goal.returns
returns g c =
    let read = g.B.FromJson.taken c.args.code in
    let refusal = c.in-Err-Refused.field-0-0 in
    let path : string_bytes refusal.path ≡ c.as_str.result.now = search rules in
    let takes =
    text_read read c.args.json.now c.in-Ok.given.now (Err (c.as_str.result.now, refusal.reason))
    c.in-Ok.ensures.cases
    ((rw c.in-Err-Refused.field-0-is at c.in-Err-Refused.ensures) ∙ ap (λ p. Err (p, refusal.reason)) path) in
    fault_told read c.args.json.now (c.as_str.result.now, refusal.reason) c.tell_fault-in-Err-Refused.result
    c.args.text.now c.tell_fault-in-Err-Refused.new.text c.args.fault.now c.tell_fault-in-Err-Refused.new.fault takes
    c.tell_fault-in-Err-Refused.ensures
