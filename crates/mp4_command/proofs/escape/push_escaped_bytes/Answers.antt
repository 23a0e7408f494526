use Rattle.std.proofs.Common.{ℕ, List, ◌++◌, flat_map, string_bytes, sym, ap, ◌∙◌, append_assoc, append-nil}
use Rattle.std.specs.Str.Chunks.{utf8_chunks_rest, utf8_chunk_valid, utf8_chunk_invalid}
use Rattle.mp4_show.specs.Escaped.{text_escaped}
use Rattle.mp4_command.specs.Words.{byte_escaped, bytes_escaped}
use Rattle.mp4_command.proofs.BytesEscaped.{bytes_escaped_chunk, bytes_escaped_empty}
use Rattle.mp4_command.proofs.escape.push_escaped_bytes.Goals as goal

pub loop-chunk-preserved : goal.loop-chunk-preserved
loop-chunk-preserved c =
    let steps = c.in-Some.ensures.steps in
    let out = string_bytes c.loop-chunk.out in
    let valid = text_escaped (utf8_chunk_valid c.in-Some.chunk) in
    let invalid = flat_map byte_escaped (utf8_chunk_invalid c.in-Some.chunk) in
    let rest = bytes_escaped (utf8_chunks_rest c.next.new.self) in
    let text = bytes_escaped_chunk _ _ _ _ steps.0 steps.3.0 steps.3.1 steps.2 in
    let first = c.in_ok-push_escaped.ensures.text ∙ ap (λ (t : List ℕ). out ++ text_escaped t) c.valid.ensures in
    let both = c.in_ok-push_bytes.ensures.text ∙ (λ i. first i ++ flat_map byte_escaped (c.invalid.ensures i)) in
    ap (λ (t : List ℕ). t ++ rest) both
    ∙ append_assoc (out ++ valid) invalid rest
    ∙ append_assoc out valid (invalid ++ rest)
    ∙ ap (λ (t : List ℕ). out ++ t) (sym text)
    ∙ c.loop-chunk.invariant

pub returns : goal.returns
returns c = record {
  text =
      sym (append-nil (string_bytes c.loop-chunk.out))
      ∙ ap (λ (t : List ℕ). string_bytes c.loop-chunk.out ++ t) (sym (bytes_escaped_empty _ c.in-None.ensures.steps.0))
      ∙ c.loop-chunk.invariant;
}
