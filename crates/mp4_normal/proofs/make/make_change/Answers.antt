use Rattle.std.proofs.Common.{◌+◌, ◌-◌, drop, ◌∙◌, arith, length-drop}
use Rattle.std.proofs.lemmas.List.{length-take-le}
use Rattle.mp4_lemmas.proofs.Lists.{drop_from}
use Rattle.mp4_normal.proofs.make.make_change.Goals as goal

pub returns-clause-rest : goal.returns-clause-rest
returns-clause-rest c =
    let m = c.args.made in
    let x = c.args.change in
    let end = x.end + c.args.growth in
    let fresh = c.args.fresh.now in
    let long = length-take-le (x.to - m.from) (drop m.from fresh)
    (omega (arith, length-drop m.from fresh, c.requires.to)) in
    drop_from c.put_at.new.bytes c.move_back.new.bytes _ end (omega (arith, long, c.requires.room))
    c.put_at.ensures.rest
    ∙ drop_from c.move_back.new.bytes c.args.bytes.now (x.begin + c.args.growth) end (omega (arith, c.requires.end))
    c.move_back.ensures.rest
