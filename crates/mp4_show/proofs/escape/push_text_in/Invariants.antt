-- This loop has appended the front in this form, and the rest is left.
use Rattle.std.proofs.Common.{◌≡◌, ◌++◌, IsUtf8, string_bytes}
use Rattle.std.specs.Str.Iter.{chars_rest}
use Rattle.mp4_show.specs.Escaped.{escaped}
use Rattle.mp4_show.proofs.escape.push_text_in.Given as goal

abbrev pub invariant-loop-c : goal.invariant-loop-c
invariant-loop-c l =
    IsUtf8 (chars_rest l.c-iterator)
    × (string_bytes l.out ++ escaped l.fn.form (chars_rest l.c-iterator)
    ≡ string_bytes l.initial.out ++ escaped l.fn.form l.fn.text)
