use Rattle.std.proofs.Common.{None, Some, lit<, ◌∙◌}
use Rattle.std.proofs.lemmas.Str.Pattern.{strip_suffix_char}
use Rattle.mp4_content.proofs.FieldSteps.{no_bracket, before_bracket}
use Rattle.mp4_content.proofs.field.entry_number.Goals as goal

pub returns-in_err-strip_suffix : goal.returns-in_err-strip_suffix
returns-in_err-strip_suffix c =
    c.from_residual.ensures
    ∙ no_bracket c.args.text.now
    (strip_suffix_char 93 c.args.text.now None c.in_err-strip_suffix.ensures.cases (lit< tt))

pub returns : goal.returns
returns c =
    let front = c.in_ok-strip_suffix.field-0 in
    c.ok.ensures.value
    ∙ before_bracket c.args.text.now front.now c.parse.result
    (strip_suffix_char 93 c.args.text.now (Some front) c.in_ok-strip_suffix.ensures.cases (lit< tt))
    c.parse.ensures.value.0
