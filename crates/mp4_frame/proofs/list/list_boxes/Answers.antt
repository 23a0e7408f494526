use Rattle.std.proofs.Common.{length, refl, arith}
use Rattle.std.specs.Prelude.{nat_lt}
use Rattle.std.proofs.lemmas.Result.{err_from_is_err_and}
use Rattle.mp4_frame.specs.Spans.{span_of, span_item}
use Rattle.mp4_frame.proofs.Steps.{walk_faults, walk_is_over, one_kept, one_refused}
use Rattle.mp4_frame.proofs.list.list_boxes.Goals as goal

pub returns-in_err-frame-clause-answer : goal.returns-in_err-frame-clause-answer
returns-in_err-frame-clause-answer g c =
    let p = err_from_is_err_and c.from_residual.result c.from_residual.ensures.1 in
    rw (p.1, p.2, ← c.loop-at.invariant.there)
    (walk_faults span_item c.bytes-bytes.result.now (nat_lt 0 (length c.loop-at.spans.items)) c.loop-at.spans.items
    c.loop-at.at c.in_err-frame.field-0.0 _ c.loop-at-test.true c.in_err-frame.ensures.answer
    c.loop-at.invariant.told)

pub returns-in_err-push-clause-answer : goal.returns-in_err-push-clause-answer
returns-in_err-push-clause-answer g c =
    let p = err_from_is_err_and c.from_residual-in_err-push.result c.from_residual-in_err-push.ensures.1 in
    let f = c.in_ok-frame.frame in
    rw (p.1, p.2, ← c.loop-at.invariant.there)
    (one_refused span_item c.bytes-bytes.result.now c.loop-at.spans.items (span_of f) c.loop-at.at f _
    c.loop-at-test.true c.in_ok-frame.ensures.answer refl c.loop-at.invariant.told)

pub loop-at-preserved : goal.loop-at-preserved
loop-at-preserved g c =
    let f = c.in_ok-frame.frame in
    record {
      told = rw (c.in_ok-push.ensures.items, c.span.ensures, c.end-at.ensures)
          (one_kept span_item c.bytes-bytes.result.now c.loop-at.spans.items (span_of f) c.loop-at.at f _
          c.loop-at-test.true c.in_ok-frame.ensures.answer refl c.loop-at.invariant.told);
      least = omega (arith, c.end-at.ensures, c.loop-at.invariant.least, c.in_ok-frame.ensures.begins.1);
      most = omega (arith, c.end-at.ensures, c.in_ok-frame.ensures.room.1);
      there = c.loop-at.invariant.there;
    }

pub returns-clause-answer : goal.returns-clause-answer
returns-clause-answer g c =
    rw (← c.loop-at.invariant.there)
    (walk_is_over span_item c.bytes-bytes.result.now (nat_lt 0 (length c.loop-at.spans.items)) c.loop-at.spans.items
    c.loop-at.at _ c.loop-at-test.false c.loop-at.invariant.told)
