use Rattle.std.proofs.Common.{ap, ◌∙◌}
use Rattle.mp4_show.specs.TextTrace.{entry_begun, numbered}
use Rattle.mp4_show.proofs.text_sink.TextSink.entry_line.Goals as goal

pub returns : goal.returns
unfolding entry_begun
returns c = c.in_ok-number_line.ensures ∙ ap numbered c.count_entry.ensures
