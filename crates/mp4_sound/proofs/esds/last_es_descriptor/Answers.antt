use Rattle.std.proofs.Common.{length, ◌∙◌, rules, arith}
use Rattle.std.proofs.lemmas.Result.{err_from_is_err_and}
use Rattle.mp4_frame.specs.Reading.{expect_bytes}
use Rattle.mp4_sound.specs.Esds.{in_esds, last_es_descriptor}
use Rattle.mp4_sound.specs.Walk.{walk}
use Rattle.mp4_sound.proofs.Walks.{framed_headers, framed_fault}
use Rattle.mp4_sound.specs.WalkLaws.{framed_value}
use Rattle.mp4_sound.proofs.esds.last_es_descriptor.Goals as goal

pub returns-in_err-found-clause-value : goal.returns-in_err-found-clause-value
unfolding last_es_descriptor
returns-in_err-found-clause-value c =
    let p = err_from_is_err_and c.from_residual-in_err-found.result c.from_residual-in_err-found.ensures.1 in
    let bytes = c.args.bytes.now in
    rw (p.1, p.2) (framed_fault (expect_bytes bytes 8 4) (walk in_esds bytes c.args.size (length bytes) 12)
    (λ found. found.0) c.in_err-found.field-0.0 c.in_ok-expect_bytes.ensures c.in_err-found.ensures.value)

pub returns-in_err-found-clause-headers : goal.returns-in_err-found-clause-headers
unfolding last_es_descriptor
returns-in_err-found-clause-headers c =
    let bytes = c.args.bytes.now in
    let n = framed_headers (expect_bytes bytes 8 4) (walk in_esds bytes c.args.size (length bytes) 12)
    (λ found. found.0) c.in_ok-expect_bytes.ensures in
    omega (arith, c.in_err-found.ensures.headers, n, c.requires.none)

pub returns-clause-value : goal.returns-clause-value
unfolding last_es_descriptor
returns-clause-value c =
    let bytes = c.args.bytes.now in
    framed_value (expect_bytes bytes 8 4) (walk in_esds bytes c.args.size (length bytes) 12) (λ found. found.0)
    (c.in_ok-found.found, c.in_ok-found._end) c.in_ok-expect_bytes.ensures c.in_ok-found.ensures.value
    ∙ search rules

pub returns-clause-headers : goal.returns-clause-headers
unfolding last_es_descriptor
returns-clause-headers c =
    let bytes = c.args.bytes.now in
    let n = framed_headers (expect_bytes bytes 8 4) (walk in_esds bytes c.args.size (length bytes) 12)
    (λ found. found.0) c.in_ok-expect_bytes.ensures in
    omega (arith, c.in_ok-found.ensures.headers, n, c.requires.none)
