use Rattle.std.proofs.Common.{◌≡◌, ◌∙◌, ◌++◌, ap, ℕ, List}
use Rattle.json.specs.Print.{print}
use Rattle.json.specs.Token.{Token}
use Rattle.mp4_check.specs.FaultValues.{value_of}
use Rattle.mp4_check.specs.Lines.{fault_tokens}
use Rattle.mp4_content.specs.PathTexts.{path_shown}
use Rattle.mp4_content.specs.declared.path.Part.{Part}
use Rattle.mp4_check.proofs.Outcomes.{if_ok}
use Rattle.mp4_show.specs.Escaped.{json_escaped}
use Rattle.mp4_check.proofs.lines.object_of.Goals as goal

pub returns : goal.returns
returns c =
    let v = value_of c.args.fault.now in
    let name = c.args.name.now in
    let path = c.as_str.result.now in
    let said = c.as_str-2.result.now in
    let written = fault_tokens name v path said in
    let shown : path ≡ path_shown v.path =
    c.as_str.ensures.value ∙ c.in_ok-path.ensures ∙ ap (λ (ps : List Part). path_shown ps) c.deref.ensures.value in
    let put = c.in_ok-put_fault.ensures in
    let tokens : c.put_fault.new.sink.out.tokens ≡ written =
    put.1 ∙ ap (λ (ts : List Token). ts ++ written) c.new-sink.ensures.tokens in
    if_ok c.json_text.result (c.json_text.ensures.text (put.0 ∙ c.new-sink.ensures.before))
    (λ text is. (
      said,
      is ∙ ap (λ (ts : List Token). json_escaped (print ts)) tokens
          ∙ ap (λ (shown : List ℕ). json_escaped (print (fault_tokens name v shown said))) shown,
    ))
