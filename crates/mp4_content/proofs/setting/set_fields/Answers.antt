use Rattle.std.proofs.Common.{◌∙◌, refl}
use Rattle.mp4_content.proofs.SettingSteps.{known_box}
use Rattle.mp4_content.proofs.setting.set_fields.Goals as goal
use Rattle.mp4_lemmas.proofs.Outcomes.{both_known}

pub returns-in-Known-clause-set_or_reason : goal.returns-in-Known-clause-set_or_reason
returns-in-Known-clause-set_or_reason g c =
    let file = c.args.walk.now.bytes in
    let read = rw (c.in_ok-value.ensures.kept, c.in_ok-own-in-Known.ensures.ok) at c.read_box.ensures.bytes in
    both_known file file refl c.in_ok-value.ensures.shows read
    (λ bytes shows own.
    known_box g.B.Shown.known g.B.Shown.named_reading g.B.BoxFields.shown g.B.FromJson.taken g.B.Mp4Box.format bytes
    c.args.found.now c.args.settings.now c.set_known.result (λ v. v.items) c.in-Some.code c.in_ok-value.field-0
    c.in-Known.value c.deref.result.now c.in-Some.is c.in-Known.is shows (c.deref.ensures.value ∙ own)
    c.set_known.ensures)
