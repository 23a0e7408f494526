-- The digits of the first bytes are appended.
use Rattle.std.proofs.Common.{◌≡◌, ◌++◌, flat_map, string_bytes, take}
use Rattle.mp4_show.specs.Texts.{byte_digits}
use Rattle.mp4_show.proofs.escape.push_digits.Given as goal

abbrev pub invariant-loop-byte : goal.invariant-loop-byte
invariant-loop-byte l =
    string_bytes l.out ≡ string_bytes l.initial.out ++ flat_map byte_digits (take l.byte-index l.bytes)
