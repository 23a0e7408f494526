-- The sizes that are handed over and those that are left are all sizes.
use Rattle.std.proofs.Common.{◌≡◌, ◌+◌}
use Rattle.std.specs.List.{fold}
use Rattle.mp4_extra_samples.specs.ShownSizes.{size_items}
use Rattle.mp4_extra_samples.proofs.stz2.put_sizes.Given as goal

abbrev pub invariant-loop-left : goal.invariant-loop-left
invariant-loop-left g l = record {
  count : l.index + l.left ≡ l.fn.count;
  events : fold g.K.FieldSink.after (g.K.FieldSink.trace l.sink) (size_items l.bits l.bytes l.index l.left)
      ≡ fold g.K.FieldSink.after (g.K.FieldSink.trace l.initial.sink) (size_items l.bits l.bytes 0 l.fn.count);
}

abbrev pub decreases-loop-left : goal.decreases-loop-left
decreases-loop-left g l = l.left
