use Rattle.std.proofs.Common.{codes}
use Rattle.mp4_show.proofs.Handed.{hands_more}
use Rattle.mp4_show.specs.Row.{shown_row}
use Rattle.mp4_show.specs.SoundRows.{stream_row}
use Rattle.mp4_show.specs.contracts.fields.sound.DecoderConfigDescriptorBoxFields.TheImpl.{ghosts}
use Rattle.mp4_show.specs.declared.fields.sound.TheConstants.{STREAM}
use Rattle.mp4_shown.specs.Shapes.{shown_group}
use Rattle.mp4_show.proofs.fields.sound.ESDescriptorBoxFields.show.Goals as goal

pub returns : goal.returns
returns g c =
    hands_more g.K.FieldSink.trace g.K.FieldSink.after c.put_group.result
    (shown_row STREAM.now (stream_row c.args.self.now))
    (shown_group (codes "decConfigDescr") (ghosts.shown c.args.view c.args.self.now.dec_config)) c.args.sink.now
    c.put_row.new.sink c.put_group.new.sink c.in_ok-put_row.ensures c.put_group.ensures
