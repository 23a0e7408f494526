use Rattle.std.proofs.Common.{ℕ, ◌+◌, length, ap, sym, ◌∙◌, rules}
use Rattle.std.proofs.lemmas.Result.{err_from_is_err_and}
use Rattle.mp4_frame.specs.Reading.{expect_bytes}
use Rattle.mp4_sound.specs.EsDescriptor.{es_descriptor, es_descriptor_with, in_es_descriptor}
use Rattle.mp4_sound.specs.Walk.{walk}
use Rattle.mp4_sound.proofs.Walks.{framed_headers, framed_fault}
use Rattle.mp4_sound.specs.WalkLaws.{framed_value}
use Rattle.mp4_sound.proofs.es_descriptor.ESDescriptor.at.Goals as goal

pub returns-in_err-found-clause-value : goal.returns-in_err-found-clause-value
unfolding es_descriptor
returns-in_err-found-clause-value c =
    let p = err_from_is_err_and c.from_residual-in_err-found.result c.from_residual-in_err-found.ensures.1 in
    let bytes = c.args.bytes.now in
    let at = c.args.at in
    rw (p.1, p.2) (framed_fault (expect_bytes bytes at 3)
    (walk in_es_descriptor bytes (at + c.args.long) (length bytes) (at + 3)) (es_descriptor_with bytes at)
    c.in_err-found.field-0.0 c.in_ok-expect_bytes.ensures c.in_err-found.ensures.value)

pub returns-in_err-found-clause-headers : goal.returns-in_err-found-clause-headers
unfolding es_descriptor
returns-in_err-found-clause-headers c =
    let bytes = c.args.bytes.now in
    let at = c.args.at in
    let n = framed_headers (expect_bytes bytes at 3)
    (walk in_es_descriptor bytes (at + c.args.long) (length bytes) (at + 3)) (es_descriptor_with bytes at)
    c.in_ok-expect_bytes.ensures in
    c.in_err-found.ensures.headers ∙ ap (λ (x : ℕ). c.args.headers.now + x) (sym n)

pub returns-clause-value : goal.returns-clause-value
unfolding es_descriptor
returns-clause-value c =
    let bytes = c.args.bytes.now in
    let at = c.args.at in
    framed_value (expect_bytes bytes at 3) (walk in_es_descriptor bytes (at + c.args.long) (length bytes) (at + 3))
    (es_descriptor_with bytes at) (c.in_ok-found.found, c.in_ok-found.end) c.in_ok-expect_bytes.ensures
    c.in_ok-found.ensures.value ∙ search rules

pub returns-clause-headers : goal.returns-clause-headers
unfolding es_descriptor
returns-clause-headers c =
    let bytes = c.args.bytes.now in
    let at = c.args.at in
    let n = framed_headers (expect_bytes bytes at 3)
    (walk in_es_descriptor bytes (at + c.args.long) (length bytes) (at + 3)) (es_descriptor_with bytes at)
    c.in_ok-expect_bytes.ensures in
    c.in_ok-found.ensures.headers ∙ ap (λ (x : ℕ). c.args.headers.now + x) (sym n)
