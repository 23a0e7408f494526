use Rattle.std.proofs.Common.{OnOk, subst}
use Rattle.std.specs.Prelude.{codes}
use Rattle.std.specs.declared.option.Option.{Option}
use Rattle.mp4_info.specs.Members.{span_value}
use Rattle.mp4_info.specs.declared.durations.Duration.{Duration}
use Rattle.mp4_shown_json.specs.Tokens.{Puts}
use Rattle.mp4_info.proofs.file_json.put_fragment.Goals as goal

pub returns : goal.returns
returns c =
    let start = c.args.sink.now.out in
    let end = c.put_span.new.sink.out in
    subst
    (λ (d : Option Duration). OnOk c.put_span.result
    (Puts start end (span_value (codes "position") c.args.fragment.position d)))
    c.fragment_duration-duration.ensures c.put_span.ensures
