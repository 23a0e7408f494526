use Rattle.std.proofs.Common.{ℕ, ◌<◌, ◌^◌, slice_index, refl, arith, sym, ◌∙◌}
use borrow.Author.Count.{below_more}
use Rattle.mp4_declared.specs.BitsLaws.{number_fits, all_fit}
use Rattle.mp4_declared.proofs.bits.numbers_fit.Goals as goal

pub returns-then-not-fits : goal.returns-then-not-fits
returns-then-not-fits g c = (
  (λ h. absurd cc),
  (λ fit. sym c.if-not-fits.true
      ∙ c.fits.ensures.1 (rw c.from.ensures (number_fits c.args.widths.now c.args.numbers.now c.loop-k.k fit))),
)

pub loop-k-preserved : goal.loop-k-preserved
loop-k-preserved g c =
    let here : slice_index c.args.numbers.now c.loop-k.k < 2 ^ slice_index c.args.widths.now c.loop-k.k =
    rw (← c.from.ensures) (c.fits.ensures.0 c.if-not-fits.false) in
    record {
      most = omega arith;
      each = below_more (λ (i : ℕ). slice_index c.args.numbers.now i < 2 ^ slice_index c.args.widths.now i) c.loop-k.k
          c.loop-k.invariant.each here;
    }

pub returns : goal.returns
returns g c = (
  (λ _.
      all_fit c.args.widths.now c.args.numbers.now (omega arith) (λ k lt. c.loop-k.invariant.each k (omega arith))),
  (λ _. refl),
)
