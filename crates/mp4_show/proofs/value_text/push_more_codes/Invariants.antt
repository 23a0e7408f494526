-- The first codes are appended.
use Rattle.std.proofs.Common.{◌≡◌, ◌++◌, flat_map, map, string_bytes, take}
use Rattle.mp4_show.specs.Texts.{code_after_space}
use Rattle.mp4_shown.specs.Event.{bytes_of_code}
use Rattle.mp4_show.proofs.value_text.push_more_codes.Given as goal

abbrev pub invariant-loop-code : goal.invariant-loop-code
invariant-loop-code l =
    string_bytes l.out
    ≡ string_bytes l.initial.out ++ flat_map code_after_space (map bytes_of_code (take l.code-index l.codes))
