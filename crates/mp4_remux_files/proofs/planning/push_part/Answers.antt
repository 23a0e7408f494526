use Rattle.std.proofs.Common.{rules, ◌≡◌, ◌-◌, take, drop}
use Rattle.mp4_remux_files.proofs.Plans.{new_pushed, old_pushed}
use Rattle.mp4_remux_files.proofs.planning.push_part.Goals as goal

pub returns-then-to-begin : goal.returns-then-to-begin
returns-then-to-begin c =
    old_pushed c.push.result c.args.begin c.args.at c.args.to c.args.movie.now c.args.made.now c.args.plan.now
    c.push.new.plan c.requires.order (c.is_same.ensures.within c.if-is_same.true)
    (c.is_same.ensures.same c.if-is_same.true) c.push.ensures

pub returns : goal.returns
returns c =
    let same : c.in_ok-bytes.bytes.items ≡ take (c.args.to - c.args.at) (drop c.args.at c.args.made.now) =
    search rules in
    new_pushed c.push-2.result c.args.begin c.args.at c.args.to c.args.movie.now c.args.made.now
    c.in_ok-bytes.bytes.items c.args.plan.now c.push-2.new.plan same c.push-2.ensures
