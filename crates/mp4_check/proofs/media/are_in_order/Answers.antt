use Rattle.std.proofs.Common.{◌<◌, ◌≤◌, arith, get_or, length}
use Rattle.mp4_check.specs.declared.extent.Extent.{Extent}
use Rattle.mp4_check.proofs.MediaOrder.{order_end, order_more}
use Rattle.mp4_check.proofs.media.are_in_order.Goals as goal

pub loop-extent-preserved : goal.loop-extent-preserved
loop-extent-preserved c = λ rest.
    let l = c.loop-extent in
    let es = c.args.extents.now in
    let lt : l.extent-index < length es = omega arith in
    let first : Extent = record { begin = 0; end = 0 } in
    let le : l.last ≤ (get_or es l.extent-index first).begin = omega arith in
    l.invariant (order_more l.last es l.extent-index first lt le rest)

pub returns : goal.returns
returns c = λ _.
    let l = c.loop-extent in
    l.invariant (order_end l.last c.args.extents.now l.extent-index (omega arith))
