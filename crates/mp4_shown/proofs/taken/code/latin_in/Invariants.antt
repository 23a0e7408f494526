-- The first `count` characters are the bytes of the value, and the others are left.
use Rattle.std.proofs.Common.{IsUtf8}
use Rattle.std.specs.Str.{chars}
use Rattle.std.specs.Str.Iter.{chars_rest}
use Rattle.mp4_shown.proofs.CodeSteps.{AreBytes}
use Rattle.mp4_shown.proofs.taken.code.latin_in.Given as goal

abbrev pub invariant-loop-c : goal.invariant-loop-c
invariant-loop-c l = record {
  valid : IsUtf8 (chars_rest l.c-iterator);
  bytes : AreBytes (chars l.fn.text) (chars (chars_rest l.c-iterator)) l.value l.count;
}
