use Rattle.std.proofs.Common.{arith}
use Rattle.mp4_extra_samples.proofs.TakenSizes.{last_half, two_more}
use Rattle.mp4_extra_samples.proofs.stz2.taken.push_halves.Goals as goal

pub loop-k-preserved : goal.loop-k-preserved
loop-k-preserved c =
    rw c.in_ok-push.ensures.items
    (two_more c.args.padding c.args.sizes.now c.loop-k.bytes.items _ c.loop-k.k (omega arith) c.loop-k.invariant)

pub returns-in_ok-push-2 : goal.returns-in_ok-push-2
returns-in_ok-push-2 c =
    rw c.in_ok-push-2.ensures.items
    (last_half c.args.padding c.args.sizes.now c.loop-k.bytes.items _ c.loop-k.k (omega arith) c.loop-k.invariant)
