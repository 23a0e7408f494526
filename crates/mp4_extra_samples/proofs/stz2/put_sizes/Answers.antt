use Rattle.std.proofs.Common.{arith}
use Rattle.mp4_extra_samples.proofs.SizeSteps.{one_size, all_sizes_are}
use Rattle.mp4_extra_samples.proofs.stz2.put_sizes.Goals as goal

pub loop-left-preserved : goal.loop-left-preserved
loop-left-preserved g c = record {
  count = omega (arith, c.loop-left.invariant.count, c.loop-left-test.true);
  events = one_size _ _ _ _ c.args.bits c.args.bytes.now c.loop-left.index c.loop-left.left c.size_at.result
      c.size_at.ensures c.loop-left-test.true c.in_ok-item.ensures c.loop-left.invariant.events;
}

pub returns : goal.returns
returns g c =
    all_sizes_are _ _ _ c.args.bits c.args.bytes.now c.loop-left.index c.loop-left.left c.loop-left-test.false
    c.loop-left.invariant.events
