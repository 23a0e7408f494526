use Rattle.mp4_show.proofs.Handed.{hands_more}
use Rattle.mp4_show.specs.Run.{first_columns, last_columns}
use Rattle.mp4_show.specs.declared.flag_names.TheConstants.{SAMPLE}
use Rattle.mp4_show.proofs.fields.fragments.put_columns.Goals as goal

pub returns : goal.returns
returns g c =
    hands_more g.K.FieldSink.trace g.K.FieldSink.after c.put_last_columns.result
    (first_columns c.args.view.rows c.args.b.now) (last_columns SAMPLE.now c.args.view.rows c.args.b.now)
    c.args.sink.now c.put_first_columns.new.sink c.put_last_columns.new.sink c.in_ok-put_first_columns.ensures
    c.put_last_columns.ensures
