use Rattle.std.proofs.Common.{ap, ◌∙◌}
use Rattle.mp4_show.specs.Lines.{TextState, in_color, with_colored}
use Rattle.mp4_show.proofs.text_sink.TextSink.words_colored.Goals as goal

pub returns : goal.returns
unfolding with_colored
returns c =
    c.in_ok-colored.ensures
    ∙ ap (λ (s : TextState). in_color s c.args.text.now c.args.color.now) c.in_ok-words.ensures
