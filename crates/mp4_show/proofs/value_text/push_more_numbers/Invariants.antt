-- The first numbers are appended.
use Rattle.std.proofs.Common.{◌≡◌, ◌++◌, flat_map, string_bytes, take}
use Rattle.mp4_show.specs.Texts.{number_after_space}
use Rattle.mp4_show.proofs.value_text.push_more_numbers.Given as goal

abbrev pub invariant-loop-number : goal.invariant-loop-number
invariant-loop-number l =
    string_bytes l.out
    ≡ string_bytes l.initial.out ++ flat_map number_after_space (take l.number-index l.numbers)
