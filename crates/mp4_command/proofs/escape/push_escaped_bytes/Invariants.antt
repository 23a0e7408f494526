-- The appended text and that of the bytes that are left are the text of all bytes.
use Rattle.std.proofs.Common.{◌≡◌, ◌++◌, string_bytes}
use Rattle.std.specs.Str.Chunks.{utf8_chunks_rest}
use Rattle.mp4_command.specs.Words.{bytes_escaped}
use Rattle.mp4_command.proofs.escape.push_escaped_bytes.Given as goal

abbrev pub invariant-loop-chunk : goal.invariant-loop-chunk
invariant-loop-chunk l =
    string_bytes l.out ++ bytes_escaped (utf8_chunks_rest l.chunk-iterator)
    ≡ string_bytes l.initial.out ++ bytes_escaped l.fn.bytes
