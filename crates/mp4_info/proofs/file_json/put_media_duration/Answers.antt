use Rattle.std.proofs.Common.{OnOk, subst}
use Rattle.std.specs.Prelude.{codes}
use Rattle.std.specs.declared.option.Option.{Option}
use Rattle.mp4_info.specs.Members.{duration_value, member}
use Rattle.mp4_info.specs.declared.durations.Duration.{Duration}
use Rattle.mp4_shown_json.specs.Tokens.{Puts}
use Rattle.mp4_info.proofs.file_json.put_media_duration.Goals as goal

pub returns : goal.returns
returns c =
    let start = c.args.sink.now.out in
    let end = c.put_duration_if.new.sink.out in
    subst
    (λ (d : Option Duration). OnOk c.put_duration_if.result
    (Puts start end (member (codes "media_duration") (duration_value d))))
    c.media_duration.ensures c.put_duration_if.ensures
