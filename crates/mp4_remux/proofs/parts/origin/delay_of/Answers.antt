use Rattle.std.proofs.Common.{arith, rules}
use Rattle.mp4_remux.proofs.Origins.{more_delay, no_delay}
use Rattle.mp4_remux.proofs.parts.origin.delay_of.Goals as goal

pub loop-index-init : goal.loop-index-init
loop-index-init c =
    let none = no_delay c.args.entries.now c.args.is_long in
    record { empty = none.0; sum = none.1 }

pub loop-index-preserved : goal.loop-index-preserved
loop-index-preserved c =
    let inv = c.loop-index.invariant in
    let more = more_delay c.args.entries.now c.args.is_long c.loop-index.index c.loop-index.delay c.in-Some.sum
    (omega (arith, c.loop-index-test.true, c.requires)) (search rules) (search rules) inv.empty inv.sum in
    record { empty = more.0; sum = more.1 }
