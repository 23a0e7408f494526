use Rattle.std.proofs.Common.{ap}
use Rattle.mp4_show.specs.Lines.{after_space}
use Rattle.mp4_show.proofs.text_sink.TextSink.words.Goals as goal

pub returns : goal.returns
returns c = ap after_space c.in_ok-put.ensures
