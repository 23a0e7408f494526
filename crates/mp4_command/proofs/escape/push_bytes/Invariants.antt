-- The first bytes are appended.
use Rattle.std.proofs.Common.{◌≡◌, ◌++◌, flat_map, string_bytes, take}
use Rattle.mp4_command.specs.Words.{byte_escaped}
use Rattle.mp4_command.proofs.escape.push_bytes.Given as goal

abbrev pub invariant-loop-byte : goal.invariant-loop-byte
invariant-loop-byte l =
    string_bytes l.out ≡ string_bytes l.initial.out ++ flat_map byte_escaped (take l.byte-index l.bytes)
