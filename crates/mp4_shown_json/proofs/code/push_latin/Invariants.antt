-- The first characters are appended.
use Rattle.std.proofs.Common.{◌≡◌, ◌++◌, string_bytes, take}
use Rattle.mp4_shown_json.specs.Tokens.{code_text}
use Rattle.mp4_shown_json.proofs.code.push_latin.Given as goal

abbrev pub invariant-loop-byte : goal.invariant-loop-byte
invariant-loop-byte l = string_bytes l.out ≡ string_bytes l.initial.out ++ code_text (take l.byte-index l.fn.code.value)
