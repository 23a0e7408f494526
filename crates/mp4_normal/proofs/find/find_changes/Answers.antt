use Rattle.std.proofs.Common.{ℕ, Bool, ◌&&◌, length, ap, sym, subst, ◌∙◌, inr}
use Rattle.std.proofs.lemmas.Result.{err_from_is_err_and}
use Rattle.mp4_frame.specs.Heads.{end_in}
use Rattle.mp4_normal.specs.Changes.{AreBefore}
use Rattle.mp4_normal.proofs.Found.{SoFar, frame_refused, box_refused, one_more, all_found, all_before}
use Rattle.mp4_normal.proofs.Found.{some_refused}
use Rattle.mp4_normal.proofs.find.find_changes.Goals as goal

pub returns-in_err-frame-clause-answer : goal.returns-in_err-frame-clause-answer
returns-in_err-frame-clause-answer c =
    let p = err_from_is_err_and c.from_residual.result c.from_residual.ensures.1 in
    rw (p.1, p.2) (frame_refused c.loop-at.invariant c.loop-at-test.true c.in_err-frame.field-0.0
    c.in_err-frame.ensures.answer)

pub find_in_box-requires-clause-before : goal.find_in_box-requires-clause-before
find_in_box-requires-clause-before c =
    let cs = c.loop-at.changes in
    subst (λ (k : ℕ). AreBefore cs (length cs.fresh.items) k) (sym c.in_ok-frame.ensures.begins.0)
    c.loop-at.invariant.before

pub returns-in_err-fits-clause-answer : goal.returns-in_err-fits-clause-answer
returns-in_err-fits-clause-answer c =
    let p = err_from_is_err_and c.from_residual-in_err-fits.result c.from_residual-in_err-fits.ensures.1 in
    rw (p.1, p.2) (box_refused c.loop-at.invariant c.loop-at-test.true c.in_ok-frame.frame c.in_ok-frame.ensures.answer
    c.in_err-fits.field-0.0 c.in_err-fits.ensures.made)

pub loop-at-preserved-then-can : goal.loop-at-preserved-then-can
loop-at-preserved-then-can c =
    let f = c.in_ok-frame.frame in
    let more = one_more c.loop-at.invariant c.loop-at-test.true f c.in_ok-frame.ensures.answer c.in_ok-fits.fits
    c.find_in_box.new.changes c.in_ok-frame.ensures.begins.0 c.in_ok-fits.ensures.made c.in_ok-fits.ensures.before
    c.in_ok-frame.ensures.room.1 in
    rw c.end-end.ensures
    (subst (λ (b : Bool). SoFar c.args.stream.now c.find_in_box.new.changes (b && c.in_ok-fits.fits) (end_in f))
    c.if-can.true more)

pub loop-at-preserved : goal.loop-at-preserved
loop-at-preserved c =
    let f = c.in_ok-frame.frame in
    let more = one_more c.loop-at.invariant c.loop-at-test.true f c.in_ok-frame.ensures.answer c.in_ok-fits.fits
    c.find_in_box.new.changes c.in_ok-frame.ensures.begins.0 c.in_ok-fits.ensures.made c.in_ok-fits.ensures.before
    c.in_ok-frame.ensures.room.1 in
    rw c.end-end.ensures
    (subst (λ (b : Bool). SoFar c.args.stream.now c.find_in_box.new.changes b (end_in f))
    (ap (λ (b : Bool). b && c.in_ok-fits.fits) c.if-can.false ∙ sym c.if-can.false) more)

pub returns-then-not-can-clause-answer : goal.returns-then-not-can-clause-answer
returns-then-not-can-clause-answer c = inr (some_refused c.loop-at.invariant c.loop-at-test.false c.if-not-can.true)

pub returns-clause-answer : goal.returns-clause-answer
returns-clause-answer c = all_found c.loop-at.invariant c.loop-at-test.false c.if-not-can.false

pub returns-clause-before : goal.returns-clause-before
returns-clause-before c = all_before c.loop-at.invariant c.loop-at-test.false
