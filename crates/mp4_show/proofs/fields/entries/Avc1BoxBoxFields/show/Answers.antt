use Rattle.std.proofs.Common.{codes}
use Rattle.mp4_show.proofs.Handed.{hands_more}
use Rattle.mp4_show.specs.EntryRows.{avc1_row}
use Rattle.mp4_show.specs.Row.{shown_row}
use Rattle.mp4_show.specs.contracts.fields.entries.AvcCBoxBoxFields.TheImpl.{ghosts}
use Rattle.mp4_show.specs.declared.fields.entries.TheConstants.{AVC1}
use Rattle.mp4_shown.specs.Hands.{Hands}
use Rattle.mp4_shown.specs.Shapes.{shown_group}
use Rattle.mp4_show.proofs.fields.entries.Avc1BoxBoxFields.show.Goals as goal

pub returns : goal.returns
returns g c =
    let b = c.args.self.now in
    let row : Hands g.K.FieldSink.trace g.K.FieldSink.after c.args.sink.now (shown_row AVC1.now (avc1_row b))
    c.put_row.new.sink =
    rw (← c.raw_value.ensures, ← c.raw_value-2.ensures) c.in_ok-put_row.ensures in
    hands_more g.K.FieldSink.trace g.K.FieldSink.after c.put_group.result (shown_row AVC1.now (avc1_row b))
    (shown_group (codes "avcC") (ghosts.shown c.args.view b.avcc)) c.args.sink.now c.put_row.new.sink
    c.put_group.new.sink row c.put_group.ensures
