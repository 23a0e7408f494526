use Rattle.std.proofs.Common.{OnOk, subst, sym, ◌∙◌}
use Rattle.std.specs.Prelude.{codes}
use Rattle.std.specs.declared.option.Option.{Option}
use Rattle.mp4_info.specs.Members.{member, or_null}
use Rattle.mp4_info.specs.TrackJson.{rate_object}
use Rattle.mp4_info.specs.declared.rates.FrameRate.{FrameRate}
use Rattle.mp4_shown_json.specs.Tokens.{Puts}
use Rattle.mp4_info.proofs.file_json.put_rate_if.Goals as goal

pub returns-in-Some : goal.returns-in-Some
returns-in-Some c =
    let start = c.args.sink.now.out in
    let end = c.put_known_rate.new.sink.out in
    subst
    (λ (o : Option FrameRate). OnOk c.put_known_rate.result
    (Puts start end (member (codes "frame_rate") (or_null rate_object o))))
    (sym c.in-Some.is ∙ c.rate_of.ensures) c.put_known_rate.ensures

pub returns-in-None : goal.returns-in-None
returns-in-None c =
    let start = c.args.sink.now.out in
    let end = c.put_null.new.sink.out in
    subst
    (λ (o : Option FrameRate). OnOk c.put_null.result
    (Puts start end (member (codes "frame_rate") (or_null rate_object o))))
    (sym c.in-None.is ∙ c.rate_of.ensures) c.put_null.ensures
