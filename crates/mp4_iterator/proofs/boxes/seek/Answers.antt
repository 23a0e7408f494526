use Rattle.std.proofs.Common.{◌<◌, ◌^◌, length, refl, sym, ap, ◌∙◌, arith, rules}
use Rattle.std.proofs.lemmas.Result.{err_from_is_err_and}
use Rattle.mp4_iterator.proofs.Items.{items_none, items_skip}
use Rattle.mp4_iterator.proofs.Calls.{seek_faults, seek_finds}
use Rattle.mp4_iterator.proofs.boxes.seek.Goals as goal

pub returns-in_err-frame : goal.returns-in_err-frame
returns-in_err-frame g c =
    let p = err_from_is_err_and c.from_residual.result c.from_residual.ensures.1 in
    rw (p.1, p.2) (seek_faults g.B.StreamBox.known g.B.StreamBox.named_reading c.args.bytes.now c.args.at.now
    c.loop-start.start c.in_err-frame.field-0.0 c.loop-start.invariant.same_items c.loop-start-test.true
    c.in_err-frame.ensures.answer)

pub returns-then-knows : goal.returns-then-knows
returns-then-knows g c =
    let f = c.in_ok-frame.frame in
    let h = c.in_ok-frame.ensures in
    let room : length c.args.bytes.now < 2 ^ 64 = search rules in
    seek_finds g.B.StreamBox.known g.B.StreamBox.named_reading c.args.bytes.now c.args.at.now c.loop-start.start f
    c.loop-start.invariant.same_items c.loop-start-test.true h.answer
    (ap g.B.StreamBox.known (sym c.name.ensures) ∙ sym c.knows.ensures ∙ c.if-knows.true) h.begins.0
    h.room.0 h.room.1 (omega (arith, h.room.1, room))

pub loop-start-preserved : goal.loop-start-preserved
loop-start-preserved g c =
    record {
      same_items = rw c.end-start.ensures
          (c.loop-start.invariant.same_items
          ∙ items_skip g.B.StreamBox.known g.B.StreamBox.named_reading c.args.bytes.now c.loop-start.start
          c.in_ok-frame.frame c.loop-start-test.true c.in_ok-frame.ensures.answer
          (ap g.B.StreamBox.known (sym c.name.ensures) ∙ sym c.knows.ensures ∙ c.if-knows.false));
      not_before = omega (
        arith,
        c.end-start.ensures,
        c.loop-start.invariant.not_before,
        c.in_ok-frame.ensures.begins.1,
      );
      within_bytes = omega (arith, c.end-start.ensures, c.in_ok-frame.ensures.room.1);
      same_bytes = refl;
    }

pub returns : goal.returns
returns g c = (
  c.loop-start.invariant.same_items
      ∙ items_none g.B.StreamBox.known g.B.StreamBox.named_reading c.args.bytes.now c.loop-start.start
      c.loop-start-test.false,
  omega (arith, c.loop-start.invariant.not_before, c.loop-start.invariant.within_bytes, c.loop-start-test.false),
)
