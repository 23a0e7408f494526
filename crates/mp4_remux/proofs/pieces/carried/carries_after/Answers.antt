use Rattle.std.proofs.Common.{◌-◌, length, take, drop}
use Rattle.std.proofs.lemmas.List.{take_rest}
use Rattle.mp4_remux.proofs.Passed.{carried_after}
use Rattle.mp4_remux.proofs.pieces.carried.carries_after.Goals as goal

pub returns : goal.returns
returns c =
    let both = carried_after c.args.pieces.now
    (take (length c.args.pieces.now - c.args.passed) (drop c.args.passed c.args.pieces.now)) c.args.passed c.args.before
    c.args.at c.args.size c.args.from (take_rest c.args.pieces.now c.args.passed) c.requires.before c.requires.order in
    ((λ yes. both.1 (c.carries.ensures.0 yes)), λ is. c.carries.ensures.1 (both.0 is))
