use Rattle.std.proofs.lemmas.Result.{err_from_is_err_and}
use Rattle.mp4_iterator.proofs.Collects.{left_in_order, is_full, stops, is_over}
use Rattle.mp4_iterator.proofs.collect.collect_boxes.Goals as goal

pub returns-in_err-item : goal.returns-in_err-item
returns-in_err-item g c =
    let p = err_from_is_err_and c.from_residual.result c.from_residual.ensures.1 in
    rw (p.1, p.2, left_in_order g.B.StreamBox.known g.B.StreamBox.named_reading c.args.boxes)
    (stops g.B.StreamBox.known g.B.StreamBox.named_reading c.loop-item.item-iterator c.next.new.self
    c.loop-item.list.items c.in_err-item.field-0.0 c.in-Some.item _ c.in_err-item.was c.in-Some.ensures.steps
    c.loop-item.invariant.same_outcome)

pub returns-in_err-push : goal.returns-in_err-push
returns-in_err-push g c =
    let p = err_from_is_err_and c.from_residual-in_err-push.result c.from_residual-in_err-push.ensures.1 in
    rw (p.1, p.2, left_in_order g.B.StreamBox.known g.B.StreamBox.named_reading c.args.boxes)
    (is_full g.B.StreamBox.known g.B.StreamBox.named_reading c.loop-item.item-iterator c.next.new.self
    c.loop-item.list.items c.in_ok-item.field-0 c.in-Some.item _ c.in_ok-item.was c.in-Some.ensures.steps
    c.loop-item.invariant.same_outcome)

pub returns : goal.returns
returns g c =
    rw (left_in_order g.B.StreamBox.known g.B.StreamBox.named_reading c.args.boxes)
    (is_over g.B.StreamBox.known g.B.StreamBox.named_reading c.loop-item.item-iterator c.next.new.self
    c.loop-item.list.items _ c.in-None.ensures.steps c.loop-item.invariant.same_outcome)
