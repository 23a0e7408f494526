-- The first bytes are appended.
use Rattle.std.proofs.Common.{◌≡◌, ◌++◌, string_bytes, take}
use Rattle.mp4_content.specs.FaultText.{bytes_text}
use Rattle.mp4_content.proofs.fault_texts.push_bytes.Given as goal

abbrev pub invariant-loop-byte : goal.invariant-loop-byte
invariant-loop-byte l = string_bytes l.out ≡ string_bytes l.initial.out ++ bytes_text (take l.byte-index l.bytes)
