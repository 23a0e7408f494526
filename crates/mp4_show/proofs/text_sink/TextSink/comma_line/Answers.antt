use Rattle.std.proofs.Common.{ap, ◌∙◌}
use Rattle.mp4_show.specs.Lines.{TextState, new_line}
use Rattle.mp4_show.proofs.text_sink.TextSink.comma_line.Goals as goal

pub returns : goal.returns
returns c =
    c.in_ok-next_line.ensures ∙ ap (λ (s : TextState). new_line s c.args.further) c.in_ok-write.ensures
