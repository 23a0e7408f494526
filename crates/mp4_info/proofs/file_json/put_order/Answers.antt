use Rattle.std.proofs.Common.{OnOk, subst, sym}
use Rattle.std.specs.Prelude.{Bool, codes}
use Rattle.std.specs.declared.option.Option.{Option}
use Rattle.mp4_info.specs.Members.{flag_value, member, or_null}
use Rattle.mp4_shown_json.specs.Tokens.{Puts}
use Rattle.mp4_info.proofs.file_json.put_order.Goals as goal

pub returns-in-Some : goal.returns-in-Some
returns-in-Some c =
    let start = c.args.sink.now.out in
    let end = c.put_flag.new.sink.out in
    subst
    (λ (o : Option Bool). OnOk c.put_flag.result (Puts start end (member (codes "moov_first") (or_null flag_value o))))
    (sym c.in-Some.is) c.put_flag.ensures

pub returns-in-None : goal.returns-in-None
returns-in-None c =
    let start = c.args.sink.now.out in
    let end = c.put_null.new.sink.out in
    subst
    (λ (o : Option Bool). OnOk c.put_null.result (Puts start end (member (codes "moov_first") (or_null flag_value o))))
    (sym c.in-None.is) c.put_null.ensures
