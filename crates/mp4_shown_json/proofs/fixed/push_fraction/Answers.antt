use Rattle.std.proofs.Common.{ℕ, ◌*◌, ◌/◌, ◌%◌, ◌^◌, string_bytes, ap, ◌∙◌, arith}
use Rattle.mp4_shown_json.proofs.Fraction.{last_digit, more_digits, no_digits}
use Rattle.mp4_shown_json.proofs.fixed.push_fraction.Goals as goal

pub returns-then-part-eq0 : goal.returns-then-part-eq0
returns-then-part-eq0 c =
    let one = c.power-one.ensures.value in
    record {
      text = last_digit c.loop-left.left c.loop-left.part (2 ^ c.args.bits) c.next_digit.result c.next_part-part.result
          (string_bytes c.loop-left.out) (string_bytes c.push_digit.new.out) _ c.loop-left-test.true
          (c.next_digit.ensures.value ∙ ap (λ (n : ℕ). c.loop-left.part * 10 / n) one)
          (c.next_part-part.ensures.value ∙ ap (λ (n : ℕ). c.loop-left.part * 10 % n) one) c.if-part-eq0.true
          c.in_ok-push_digit.ensures.text c.loop-left.invariant.text;
    }

pub loop-left-preserved : goal.loop-left-preserved
loop-left-preserved c =
    let one = c.power-one.ensures.value in
    record {
      below = omega (arith, c.next_part-part.ensures.below, one);
      text = more_digits c.loop-left.left c.loop-left.part (2 ^ c.args.bits) c.next_digit.result c.next_part-part.result
          (string_bytes c.loop-left.out) (string_bytes c.push_digit.new.out) _ c.loop-left-test.true
          (c.next_digit.ensures.value ∙ ap (λ (n : ℕ). c.loop-left.part * 10 / n) one)
          (c.next_part-part.ensures.value ∙ ap (λ (n : ℕ). c.loop-left.part * 10 % n) one) c.if-part-eq0.false
          c.in_ok-push_digit.ensures.text c.loop-left.invariant.text;
    }

pub returns : goal.returns
returns c = record {
  text = no_digits c.loop-left.left c.loop-left.part (2 ^ c.args.bits) (string_bytes c.loop-left.out) _
      c.loop-left-test.false c.loop-left.invariant.text;
}
