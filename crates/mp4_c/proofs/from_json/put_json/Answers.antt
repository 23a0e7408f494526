use Rattle.std.proofs.Common.{[], None, Some, Ok, Err, inl, refl, string_bytes}
use Rattle.mp4_c.proofs.JsonFaults.{no_text, text_read}
use Rattle.mp4_c.proofs.from_json.put_json.Goals as goal
use Rattle.mp4_shown.specs.declared.taken.error.Reason.TheVariants as reasons

pub returns-in_default : goal.returns-in_default
returns-in_default g c =
    let read = g.B.FromJson.taken c.args.code in
    let none = no_text read c.args.json.now c.in_default.ensures.cases.0 in
    inl (Err ([], reasons.NotJson), (none, (refl, (refl, refl))))

pub returns-in-Ok-Some : goal.returns-in-Ok-Some
returns-in-Ok-Some g c =
    let read = g.B.FromJson.taken c.args.code in
    let value = c.in-Ok-Some.value in
    let takes =
    text_read read c.args.json.now c.in-Ok.text.now (Ok (Some value)) c.in-Ok.ensures.cases
    (rw c.in-Ok-Some.field-0-is at c.in-Ok-Some.ensures) in
    inl (Ok (Some value), (takes, c.put_box.ensures))

pub returns-in-Ok-None : goal.returns-in-Ok-None
returns-in-Ok-None g c =
    let read = g.B.FromJson.taken c.args.code in
    let takes =
    text_read read c.args.json.now c.in-Ok.text.now (Ok None) c.in-Ok.ensures.cases
    (rw c.in-Ok-None.field-0-is at c.in-Ok-None.ensures) in
    inl (Ok None, (takes, (refl, (refl, refl))))

pub returns : goal.returns
returns g c =
    let read = g.B.FromJson.taken c.args.code in
    let refusal = c.in-Err-Refused.field-0-0 in
    let takes =
    text_read read c.args.json.now c.in-Ok.text.now (Err (string_bytes refusal.path, refusal.reason))
    c.in-Ok.ensures.cases (rw c.in-Err-Refused.field-0-is at c.in-Err-Refused.ensures) in
    inl (Err (string_bytes refusal.path, refusal.reason), (takes, (refl, (refl, refl))))
