use Rattle.std.proofs.Common.{ap, ◌∙◌}
use Rattle.mp4_show.specs.Lines.{TextState, separated, state_of, with_piece, wrote}
use Rattle.mp4_show.specs.declared.text_sink.Before.TheVariants as places
use Rattle.mp4_show.proofs.text_sink.TextSink.put.Goals as goal

pub returns : goal.returns
unfolding with_piece
returns c =
    ap (λ (s : TextState). record s { before = places.Comma })
    (c.in_ok-write.ensures
    ∙ ap (λ (s : TextState). wrote s c.args.text.now)
    (c.in_ok-separate.ensures ∙ ap (separated (state_of c.args.self.now)) c.columns.ensures))
