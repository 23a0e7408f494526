use Rattle.std.proofs.Common.{◌≡◌, ◌≤◌, drop}
use Rattle.std.specs.Prelude.{min}
use Rattle.std.specs.Str.Parse.{digits_value, digits_value_after}
use Rattle.mp4_shown.proofs.taken.decimal.exponent_of.Given as goal

abbrev pub invariant-loop-digit : goal.invariant-loop-digit
invariant-loop-digit l = record {
  few : l.number ≤ 1000;
  told : min (digits_value_after 10 l.number (drop l.digit-index l.text)) 1000 ≡ min (digits_value 10 l.text) 1000;
}
