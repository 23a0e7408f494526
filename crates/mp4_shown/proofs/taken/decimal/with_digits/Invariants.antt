use Rattle.std.proofs.Common.{◌≡◌, ◌<◌, ◌^◌, drop}
use Rattle.std.specs.Str.Parse.{digits_value_after}
use Rattle.mp4_shown.specs.Decimal.{few_digits}
use Rattle.mp4_shown.proofs.taken.decimal.with_digits.Given as goal

abbrev pub invariant-loop-digit : goal.invariant-loop-digit
invariant-loop-digit l = record {
  few : l.number < 10 ^ 37;
  told : few_digits (digits_value_after 10 l.number (drop l.digit-index l.text))
      ≡ few_digits (digits_value_after 10 l.initial.number l.text);
}
