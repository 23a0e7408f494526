use Rattle.std.proofs.Common.{codes}
use Rattle.mp4_show.proofs.Handed.{hands_more}
use Rattle.mp4_show.specs.Row.{group_if}
use Rattle.mp4_show.specs.contracts.fields.entries.Tx3gBoxBoxFields.TheImpl.{ghosts as tx3g}
use Rattle.mp4_show.specs.contracts.fields.sound.Mp4aBoxBoxFields.TheImpl.{ghosts as mp4a}
use Rattle.mp4_show.proofs.fields.sound.put_others.Goals as goal

pub returns : goal.returns
returns g c =
    hands_more g.K.FieldSink.trace g.K.FieldSink.after c.put_group_if-2.result
    (group_if (codes "mp4a") (mp4a.shown c.args.view) c.args.b.now.mp4a)
    (group_if (codes "tx3g") (tx3g.shown c.args.view) c.args.b.now.tx3g) c.args.sink.now c.put_group_if.new.sink
    c.put_group_if-2.new.sink c.in_ok-put_group_if.ensures c.put_group_if-2.ensures
