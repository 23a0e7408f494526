-- The appended characters and those that are left are the text between quotes.
use Rattle.std.proofs.Common.{◌≡◌, ◌++◌, IsUtf8, string_bytes}
use Rattle.std.specs.Str.Iter.{chars_rest}
use Rattle.mp4_show.specs.Texts.{quoted}
use Rattle.mp4_show.proofs.number_text.push_all_quoted.Given as goal

abbrev pub invariant-loop-c : goal.invariant-loop-c
invariant-loop-c l =
    IsUtf8 (chars_rest l.c-iterator)
    × (string_bytes l.out ++ quoted (chars_rest l.c-iterator) ≡ string_bytes l.initial.out ++ quoted l.fn.text)
