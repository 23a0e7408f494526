use Rattle.std.proofs.Common.{◌≡◌, ℕ, ◌+◌, ◌-◌, ◌*◌, drop, get_or, sym, ap, ◌∙◌, arith}
use Rattle.std.proofs.lemmas.Str.Parse.{digit_at}
use Rattle.std.specs.Str.Parse.{digits_value_after}
use Rattle.mp4_shown.specs.Decimal.{few_digits}
use Rattle.mp4_shown.proofs.DigitSteps.{digit_step, too_many}
use Rattle.mp4_shown.proofs.taken.decimal.with_digits.Goals as goal

pub returns-then-number-clause-value : goal.returns-then-number-clause-value
returns-then-number-clause-value c =
    sym (sym c.loop-digit.invariant.told
    ∙ too_many c.loop-digit.number c.args.text.now c.loop-digit.digit-index (omega (arith, c.if-number.true))
    c.loop-digit-test.true)

pub overflow_sub-digit : goal.overflow_sub-digit
overflow_sub-digit c =
    (digit_at c.args.text.now c.loop-digit.digit-index c.requires.digits c.loop-digit-test.true).0

pub loop-digit-preserved : goal.loop-digit-preserved
loop-digit-preserved c =
    let text = c.args.text.now in
    let index = c.loop-digit.digit-index in
    let range = digit_at text index c.requires.digits c.loop-digit-test.true in
    let digit : c.from.result ≡ get_or text index 0 - 48 = omega (arith, c.from.ensures) in
    record {
      few = omega (arith, digit, range.1, c.if-number.false);
      told = ap (λ (d : ℕ). few_digits (digits_value_after 10 (c.loop-digit.number * 10 + d) (drop (index + 1) text)))
          digit
          ∙ sym (ap few_digits (digit_step c.loop-digit.number text index c.requires.digits c.loop-digit-test.true))
          ∙ c.loop-digit.invariant.told;
    }
