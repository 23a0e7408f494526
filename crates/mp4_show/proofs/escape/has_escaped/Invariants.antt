-- One of the characters that are left is shown by its number if and only if one of all is.
use Rattle.std.proofs.Common.{◌≡◌, IsUtf8}
use Rattle.std.specs.List.{list_any}
use Rattle.std.specs.Str.{chars}
use Rattle.std.specs.Str.Iter.{chars_rest}
use Rattle.mp4_show.specs.Escaped.{is_escaped}
use Rattle.mp4_show.proofs.escape.has_escaped.Given as goal

abbrev pub invariant-loop-c : goal.invariant-loop-c
invariant-loop-c l =
    IsUtf8 (chars_rest l.c-iterator)
    × (list_any is_escaped (chars (chars_rest l.c-iterator)) ≡ list_any is_escaped (chars l.fn.text))
