use Rattle.std.proofs.Common.{◌≡◌, map, slice_index, ◌∙◌, arith}
use Rattle.std.proofs.lemmas.List.{length-set}
use Rattle.std.proofs.lemmas.Result.{err_from_is_err_and}
use Rattle.mp4_shown.specs.Numbers.{seen_number}
use Rattle.mp4_shown.specs.TakenNumbers.{numbers_taken}
use Rattle.mp4_shown.specs.Object.{left}
use Rattle.mp4_shown.proofs.NumberSteps.{fits_kept, none_left, number_refused, number_step, zeros_kept}
use Rattle.mp4_shown.proofs.taken.number.take_numbers.Goals as goal

pub returns-in_err-number-clause-value : goal.returns-in_err-number-clause-value
returns-in_err-number-clause-value g c =
    let whole = numbers_taken (map seen_number c.args.names.now) c.args.widths.now (left c.args.object.now) in
    let p = err_from_is_err_and c.from_residual.result c.from_residual.ensures.1 in
    let width : c.from.result ≡ slice_index c.args.widths.now c.loop-k.k = omega (arith, c.from.ensures) in
    rw (p.1, p.2)
    (number_refused seen_number c.args.names.now c.args.widths.now whole c.in_err-number.field-0.0 c.loop-k.k
    c.from.result c.loop-k.numbers _ _ (omega arith) (omega arith) c.loop-k.invariant.told width
    c.in_err-number.ensures.value)

pub loop-k-preserved : goal.loop-k-preserved
loop-k-preserved g c =
    let whole = numbers_taken (map seen_number c.args.names.now) c.args.widths.now (left c.args.object.now) in
    let held = c.loop-k.invariant in
    let k = c.loop-k.k in
    let n = c.in_ok-number.number in
    let width : c.from.result ≡ slice_index c.args.widths.now k = omega (arith, c.from.ensures) in
    record {
      long = length-set c.loop-k.numbers k n ∙ held.long;
      told = number_step seen_number c.args.names.now c.args.widths.now whole k c.from.result n c.loop-k.numbers _ _ _
          (omega arith) (omega arith) held.long held.told width c.in_ok-number.ensures.value;
      zeros = zeros_kept c.loop-k.numbers k n held.zeros;
      fit = fits_kept c.loop-k.numbers c.args.widths.now k n (omega (arith, held.long))
          (rw width at c.in_ok-number.ensures.fits) held.fit;
    }

pub returns-clause-value : goal.returns-clause-value
returns-clause-value g c =
    let whole = numbers_taken (map seen_number c.args.names.now) c.args.widths.now (left c.args.object.now) in
    let held = c.loop-k.invariant in
    none_left seen_number c.args.names.now c.args.widths.now whole c.loop-k.k c.loop-k.numbers (left c.loop-k.object)
    (omega arith) held.long held.zeros held.told
