use Rattle.std.proofs.Common.{OnOk, subst}
use Rattle.std.specs.Prelude.{ℕ, List, codes}
use Rattle.std.specs.declared.option.Option.{Option}
use Rattle.mp4_info.specs.Members.{member, or_null, text_value}
use Rattle.mp4_shown_json.specs.Tokens.{Puts}
use Rattle.mp4_info.proofs.file_json.put_dynamic_range.Goals as goal

pub returns : goal.returns
returns c =
    let start = c.args.sink.now.out in
    let end = c.put_text_if.new.sink.out in
    subst
    (λ (o : Option (List ℕ)). OnOk c.put_text_if.result
    (Puts start end (member (codes "dynamic_range") (or_null text_value o))))
    c.range_of.ensures c.put_text_if.ensures
