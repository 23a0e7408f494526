use Rattle.std.proofs.Common.{OnOk, subst, sym}
use Rattle.std.specs.Prelude.{codes}
use Rattle.std.specs.declared.option.Option.{Option}
use Rattle.mp4_extra_pictures.specs.declared.mdcv.Mdcv.{Mdcv}
use Rattle.mp4_info.specs.Members.{member, or_null}
use Rattle.mp4_info.specs.TrackJson.{mastering_object}
use Rattle.mp4_shown_json.specs.Tokens.{Puts}
use Rattle.mp4_info.proofs.file_json.put_mastering.Goals as goal

pub returns-in-None : goal.returns-in-None
returns-in-None c =
    let start = c.args.sink.now.out in
    let end = c.put_null.new.sink.out in
    subst
    (λ (o : Option Mdcv). OnOk c.put_null.result
    (Puts start end (member (codes "mastering") (or_null mastering_object o))))
    (sym c.in-None.is) c.put_null.ensures
