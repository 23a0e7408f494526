use Rattle.std.proofs.Common.{OnOk, subst, sym, ◌∙◌}
use Rattle.std.specs.Prelude.{codes}
use Rattle.std.specs.declared.option.Option.{Option}
use Rattle.mp4_extra_pictures.specs.declared.colr.Nclx.{Nclx}
use Rattle.mp4_info.specs.Members.{member, or_null}
use Rattle.mp4_info.specs.TrackJson.{colours_object}
use Rattle.mp4_shown_json.specs.Tokens.{Puts}
use Rattle.mp4_info.proofs.file_json.put_colours.Goals as goal

pub returns-in-Some : goal.returns-in-Some
returns-in-Some c =
    let start = c.args.sink.now.out in
    let end = c.put_known_colours.new.sink.out in
    subst
    (λ (o : Option Nclx). OnOk c.put_known_colours.result
    (Puts start end (member (codes "colours") (or_null colours_object o))))
    (sym c.in-Some.is ∙ c.colours_of.ensures) c.put_known_colours.ensures
