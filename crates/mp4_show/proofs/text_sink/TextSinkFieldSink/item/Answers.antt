use Rattle.std.proofs.Common.{string_bytes, ◌∙◌}
use Rattle.mp4_show.specs.Lines.{with_piece}
use Rattle.mp4_show.specs.Values.{value_shown}
use Rattle.mp4_shown.specs.Event.{shown_of}
use Rattle.mp4_show.proofs.TextSteps.{only_piece}
use Rattle.mp4_show.proofs.text_sink.TextSinkFieldSink.item.Goals as goal

pub returns : goal.returns
returns c =
    let text = only_piece (string_bytes c.clear.new.self) (string_bytes c.push_value.new.out)
    (value_shown (shown_of c.args.value)) c.clear.ensures.bytes c.in_ok-push_value.ensures.text in
    c.in_ok-put_piece.ensures ∙ (λ i. with_piece (c.in_ok-entry_line.ensures i) (text i))
