-- The digits that are written and those of the part that is left are all digits.
use Rattle.std.proofs.Common.{◌≡◌, suc, ◌++◌, ◌^◌, ◌<◌, string_bytes}
use Rattle.mp4_shown_json.specs.Fixed.{fraction}
use Rattle.mp4_shown_json.proofs.fixed.push_fraction.Given as goal

abbrev pub invariant-loop-left : goal.invariant-loop-left
invariant-loop-left l = record {
  below : l.part < 2 ^ l.bits;
  text : string_bytes l.out ++ fraction l.left l.part (2 ^ l.bits)
      ≡ string_bytes l.initial.out ++ fraction (suc l.bits) l.fn.rest (2 ^ l.bits);
}

abbrev pub decreases-loop-left : goal.decreases-loop-left
decreases-loop-left l = l.left
