use Rattle.std.proofs.Common.{ℕ, ◌+◌, length, ap, sym, ◌∙◌, rules}
use Rattle.std.proofs.lemmas.Result.{err_from_is_err_and}
use Rattle.mp4_frame.specs.Reading.{expect_bytes}
use Rattle.mp4_sound.specs.DecoderConfig.{decoder_config, decoder_config_with, in_decoder_config}
use Rattle.mp4_sound.specs.Walk.{walk}
use Rattle.mp4_sound.proofs.Walks.{framed_headers, framed_fault}
use Rattle.mp4_sound.specs.WalkLaws.{framed_value}
use Rattle.mp4_sound.proofs.decoder_config.DecoderConfigDescriptor.at.Goals as goal

pub returns-in_err-found-clause-value : goal.returns-in_err-found-clause-value
unfolding decoder_config
returns-in_err-found-clause-value c =
    let p = err_from_is_err_and c.from_residual-in_err-found.result c.from_residual-in_err-found.ensures.1 in
    let bytes = c.args.bytes.now in
    let at = c.args.at in
    rw (p.1, p.2) (framed_fault (expect_bytes bytes at 13)
    (walk in_decoder_config bytes (at + c.args.long) (length bytes) (at + 13)) (decoder_config_with bytes at)
    c.in_err-found.field-0.0 c.in_ok-expect_bytes.ensures c.in_err-found.ensures.value)

pub returns-in_err-found-clause-headers : goal.returns-in_err-found-clause-headers
unfolding decoder_config
returns-in_err-found-clause-headers c =
    let bytes = c.args.bytes.now in
    let at = c.args.at in
    let n = framed_headers (expect_bytes bytes at 13)
    (walk in_decoder_config bytes (at + c.args.long) (length bytes) (at + 13)) (decoder_config_with bytes at)
    c.in_ok-expect_bytes.ensures in
    c.in_err-found.ensures.headers ∙ ap (λ (x : ℕ). c.args.headers.now + x) (sym n)

pub returns-clause-value : goal.returns-clause-value
unfolding decoder_config
returns-clause-value c =
    let bytes = c.args.bytes.now in
    let at = c.args.at in
    framed_value (expect_bytes bytes at 13) (walk in_decoder_config bytes (at + c.args.long) (length bytes) (at + 13))
    (decoder_config_with bytes at) (c.in_ok-found.found, c.in_ok-found.end) c.in_ok-expect_bytes.ensures
    c.in_ok-found.ensures.value ∙ search rules

pub returns-clause-headers : goal.returns-clause-headers
unfolding decoder_config
returns-clause-headers c =
    let bytes = c.args.bytes.now in
    let at = c.args.at in
    let n = framed_headers (expect_bytes bytes at 13)
    (walk in_decoder_config bytes (at + c.args.long) (length bytes) (at + 13)) (decoder_config_with bytes at)
    c.in_ok-expect_bytes.ensures in
    c.in_ok-found.ensures.headers ∙ ap (λ (x : ℕ). c.args.headers.now + x) (sym n)
