use Rattle.std.proofs.Common.{ap, ◌∙◌}
use Rattle.json.specs.Print.{print}
use Rattle.mp4_shown_json.proofs.AllTokens.{text_of_events}
use Rattle.mp4_shown_json.proofs.Whole.{members_are_whole}
use Rattle.mp4_shown_json.proofs.fields_json.json_of.Goals as goal

pub returns : goal.returns
returns g c =
    let text =
    text_of_events _ _ _ _ _ _ c.new-sink.ensures.before c.new-sink.ensures.tokens c.in_ok-put_fields.ensures
    c.into_text.ensures.text in
    let whole = members_are_whole _ (g.B.HasFields.whole _ c.args.fields.now) in
    record { text = text; members = (whole.0, text ∙ ap print whole.1) }
