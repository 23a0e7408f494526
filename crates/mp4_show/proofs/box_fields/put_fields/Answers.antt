use Rattle.mp4_show.proofs.Handed.{all_members}
use Rattle.mp4_show.proofs.box_fields.put_fields.Goals as goal

pub returns-clause-whole : goal.returns-clause-whole
returns-clause-whole g c =
    all_members g.K.FieldSink.trace g.K.FieldSink.after c.show.result
    (g.B.BoxFields.shown c.view-view.result c.args.fields.now) c.args.sink.now c.show.new.sink
    (g.B.BoxFields.whole c.view-view.result c.args.fields.now) c.show.ensures
