-- The appended names and those of the flags that are left are all names.
use Rattle.std.proofs.Common.{◌≡◌, ◌++◌, true, drop, map, string_bytes}
use Rattle.mp4_show.specs.Texts.{flag_names}
use Rattle.mp4_shown.specs.Event.{seen_meaning}
use Rattle.mp4_show.proofs.value_text.push_flag_names.Given as goal

abbrev pub invariant-loop-meaning : goal.invariant-loop-meaning
invariant-loop-meaning l =
    string_bytes l.out ++ flag_names l.first l.fn.flags (map seen_meaning (drop l.meaning-index l.names))
    ≡ string_bytes l.initial.out ++ flag_names true l.fn.flags (map seen_meaning l.names)
