use Rattle.std.proofs.Common.{◌≡◌, ◌+◌, ◌≤◌, length, Ok, IfSome, sym, subst, arith}
use Rattle.std.specs.declared.option.Option.{Option}
use Rattle.std.proofs.lemmas.Result.{err_from_is_err_and}
use Rattle.mp4_frame.specs.declared.box_type.BoxType.{BoxType}
use Rattle.mp4_frame.specs.declared.frame.Frame.{Frame}
use Rattle.mp4_boxes.specs.Parts.{HeadIn, LinesBefore}
use Rattle.mp4_boxes.proofs.Listed.{head_refused, head_cut, size_refused, last_box, next_box, in_input, not_cut}
use Rattle.mp4_boxes.proofs.part.list_part.Goals as goal

pub returns-in_err-found-clause-lines : goal.returns-in_err-found-clause-lines
returns-in_err-found-clause-lines c B rest has before =
    let p = err_from_is_err_and c.from_residual.result c.from_residual.ensures.1 in
    let there = c.loop-next.invariant.told B rest has before in
    let inside = in_input B c.args.part.now rest c.args.from c.loop-next.next has c.loop-next-test.true in
    rw (p.1, p.2) (head_refused B c.loop-next.lines.items c.loop-next.next there inside c.in_err-found.field-0.0
    (c.in_err-found.ensures.head B rest has))

pub returns-in_err-found-clause-whole : goal.returns-in_err-found-clause-whole
returns-in_err-found-clause-whole c =
    let p = err_from_is_err_and c.from_residual.result c.from_residual.ensures.1 in
    rw (p.1, p.2) c.in_err-found.ensures.whole

pub returns-in-None-clause-lines : goal.returns-in-None-clause-lines
returns-in-None-clause-lines c B rest has before =
    let there = c.loop-next.invariant.told B rest has before in
    let inside = in_input B c.args.part.now rest c.args.from c.loop-next.next has c.loop-next-test.true in
    let read = c.args.from + length c.args.part.now in
    let cut = subst (λ (r : Option Frame). HeadIn B read c.loop-next.next (Ok r)) c.in-None.is
    (c.in_ok-found.ensures.head B rest has) in
    (there, λ lt all. head_cut B c.loop-next.lines.items c.loop-next.next there inside (cut all))

pub returns-then-head-eq0-clause-lines : goal.returns-then-head-eq0-clause-lines
returns-then-head-eq0-clause-lines c B rest has before =
    let there = c.loop-next.invariant.told B rest has before in
    let inside = in_input B c.args.part.now rest c.args.from c.loop-next.next has c.loop-next-test.true in
    let read = c.args.from + length c.args.part.now in
    let h = c.in-Some.head in
    let shown = subst (λ (r : Option Frame). HeadIn B read c.loop-next.next (Ok r)) c.in-Some.is
    (c.in_ok-found.ensures.head B rest has) in
    subst (λ (n : BoxType). LinesBefore B c.loop-next.lines.items c.loop-next.next n) (sym c.name.ensures)
    (last_box B c.loop-next.lines.items c.loop-next.next there inside h shown c.if-head-eq0.true)

pub returns-in_err-frame-clause-lines : goal.returns-in_err-frame-clause-lines
returns-in_err-frame-clause-lines c B rest has before =
    let p = err_from_is_err_and c.from_residual-in_err-frame.result c.from_residual-in_err-frame.ensures.1 in
    let there = c.loop-next.invariant.told B rest has before in
    let inside = in_input B c.args.part.now rest c.args.from c.loop-next.next has c.loop-next-test.true in
    let read = c.args.from + length c.args.part.now in
    let h = c.in-Some.head in
    let shown = subst (λ (r : Option Frame). HeadIn B read c.loop-next.next (Ok r)) c.in-Some.is
    (c.in_ok-found.ensures.head B rest has) in
    rw (p.1, p.2) (size_refused B c.loop-next.lines.items c.loop-next.next there inside h shown c.in_err-frame.field-0.0
    c.if-head-eq0.false c.in_err-frame.ensures.answer)

pub returns-in_err-frame-clause-whole : goal.returns-in_err-frame-clause-whole
returns-in_err-frame-clause-whole c =
    let p = err_from_is_err_and c.from_residual-in_err-frame.result c.from_residual-in_err-frame.ensures.1 in
    rw (p.1, p.2) (not_cut c.in-Some.head c.in_err-frame.field-0.0 c.if-head-eq0.false c.in_err-frame.ensures.answer)

pub loop-next-preserved : goal.loop-next-preserved
loop-next-preserved c =
    let read = c.args.from + length c.args.part.now in
    let h = c.in-Some.head in
    let f = c.in_ok-frame.frame in
    let begins =
    subst (λ (r : Option Frame). IfSome r (λ h. (h.begin ≡ c.loop-next.next) × (c.loop-next.next ≤ h.start)))
    c.in-Some.is c.in_ok-found.ensures.begins in
    record {
      least = omega (arith, c.end-next.ensures, c.loop-next.invariant.least, begins.1, c.in_ok-frame.ensures.begins.1);
      told = λ B rest has before.
          let there = c.loop-next.invariant.told B rest has before in
          let inside = in_input B c.args.part.now rest c.args.from c.loop-next.next has c.loop-next-test.true in
          let shown = subst (λ (r : Option Frame). HeadIn B read c.loop-next.next (Ok r)) c.in-Some.is
          (c.in_ok-found.ensures.head B rest has) in
          let written = rw c.span.ensures at c.in_ok-push_line.ensures.ok in
          rw c.end-next.ensures
          (next_box B c.loop-next.lines.items c.loop-next.next there inside h shown f c.push_line.new.lines.items
          c.if-head-eq0.false c.in_ok-frame.ensures.answer written);
    }
