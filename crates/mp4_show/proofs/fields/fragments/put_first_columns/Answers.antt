use Rattle.std.proofs.Common.{codes}
use Rattle.mp4_show.proofs.Handed.{hands_more}
use Rattle.mp4_show.specs.Lists.{listed_if}
use Rattle.mp4_show.specs.Run.{number_item}
use Rattle.mp4_show.proofs.fields.fragments.put_first_columns.Goals as goal

pub returns : goal.returns
returns g c =
    hands_more g.K.FieldSink.trace g.K.FieldSink.after c.put_list_if-2.result
    (listed_if (codes "sample_duration") number_item c.args.view.rows c.args.b.now.sample_durations)
    (listed_if (codes "sample_size") number_item c.args.view.rows c.args.b.now.sample_sizes) c.args.sink.now
    c.put_list_if.new.sink c.put_list_if-2.new.sink c.in_ok-put_list_if.ensures c.put_list_if-2.ensures
