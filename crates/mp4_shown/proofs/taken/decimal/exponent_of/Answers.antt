use Rattle.std.proofs.Common.{◌≡◌, ℕ, ◌+◌, ◌-◌, ◌*◌, drop, get_or, sym, ap, ◌∙◌, arith}
use Rattle.std.proofs.lemmas.Str.Parse.{digit_at}
use Rattle.std.specs.Prelude.{min}
use Rattle.std.specs.Str.Parse.{digits_value_after}
use Rattle.mp4_shown.proofs.DigitSteps.{at_most, digit_step}
use Rattle.mp4_shown.proofs.taken.decimal.exponent_of.Goals as goal

pub overflow_sub-digit : goal.overflow_sub-digit
overflow_sub-digit c = (digit_at c.args.text.now c.loop-digit.digit-index c.requires c.loop-digit-test.true).0

pub loop-digit-preserved : goal.loop-digit-preserved
loop-digit-preserved c =
    let text = c.args.text.now in
    let index = c.loop-digit.digit-index in
    let next = c.loop-digit.number * 10 + (get_or text index 0 - 48) in
    let least : c.min-number.result ≡ min next 1000 = omega (arith, c.min-number.ensures, c.from.ensures) in
    record {
      few = omega (arith, least);
      told = ap (λ (n : ℕ). min (digits_value_after 10 n (drop (index + 1) text)) 1000) least
          ∙ at_most next (drop (index + 1) text)
          ∙ sym (ap (λ (n : ℕ). min n 1000)
          (digit_step c.loop-digit.number text index c.requires c.loop-digit-test.true))
          ∙ c.loop-digit.invariant.told;
    }
