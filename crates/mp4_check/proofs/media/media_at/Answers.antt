use Rattle.std.proofs.Common.{◌≡◌, ◌+◌, ◌-◌, ◌/◌, ◌<◌, suc, length, None, sym, ap, arith}
use Rattle.std.proofs.lemmas.List.{get_or_default}
use Rattle.mp4_check.specs.declared.extent.Extent.{Extent}
use Rattle.mp4_check.proofs.MediaOrder.{at_none, at_some, begins_in_order}
use Rattle.mp4_check.proofs.media.media_at.Goals as goal

abbrev empty : Extent
empty = record { begin = 0; end = 0 }

pub halves-preserved-then-extents-middle : goal.halves-preserved-then-extents-middle
halves-preserved-then-extents-middle c =
    let es = c.args.extents.now in
    let l = c.halves in
    let middle = l.low + (l.high - l.low) / 2 in
    let lt : middle < length es = omega (arith, l.invariant.within) in
    record {
      order = omega arith;
      within = l.invariant.within;
      before = λ k d less.
          let same = get_or_default es middle d (record { begin = 0; end = 0 }) lt in
          let le = begins_in_order 0 es k middle d c.requires (omega arith) lt in
          omega (arith, le, ap (λ (e : Extent). e.begin) same, c.if-extents-middle.true);
      after = l.invariant.after;
    }

pub returns-then-low-eq0 : goal.returns-then-low-eq0
returns-then-low-eq0 c =
    let l = c.halves in
    let none : l.high ≡ 0 = omega arith in
    let after = rw none at (l.invariant.after empty) in
    sym (at_none None c.args.extents.now c.args.offset empty after)

pub returns-else-low-eq0 : goal.returns-else-low-eq0
returns-else-low-eq0 c =
    let es = c.args.extents.now in
    let l = c.halves in
    let next : l.high ≡ suc (l.low - 1) = omega (arith, l.invariant.order, c.if-low-eq0.false) in
    let lt : l.low - 1 < length es = omega (arith, l.invariant.order, l.invariant.within, c.if-low-eq0.false) in
    sym (at_some None es c.args.offset (l.low - 1) l.high (record { begin = 0; end = 0 }) next lt
    (λ k le. l.invariant.before k (record { begin = 0; end = 0 }) (omega (arith, c.if-low-eq0.false)))
    (l.invariant.after (record { begin = 0; end = 0 })))
