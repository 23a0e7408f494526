use Rattle.std.proofs.Common.{◌++◌, codes}
use Rattle.mp4_show.proofs.Handed.{hands_more}
use Rattle.mp4_show.specs.Row.{group_if}
use Rattle.mp4_show.specs.contracts.fields.entries.Avc1BoxBoxFields.TheImpl.{ghosts as avc1}
use Rattle.mp4_show.specs.contracts.fields.entries.Hev1BoxBoxFields.TheImpl.{ghosts as hev1}
use Rattle.mp4_show.specs.contracts.fields.entries.Vp09BoxBoxFields.TheImpl.{ghosts as vp09}
use Rattle.mp4_show.proofs.fields.sound.put_video.Goals as goal

pub returns : goal.returns
returns g c =
    let b = c.args.b.now in
    let first = group_if (codes "avc1") (avc1.shown c.args.view) b.avc1 in
    let second = group_if (codes "hev1") (hev1.shown c.args.view) b.hev1 in
    let third = group_if (codes "vp09") (vp09.shown c.args.view) b.vp09 in
    hands_more g.K.FieldSink.trace g.K.FieldSink.after c.put_group_if-3.result first (second ++ third) c.args.sink.now
    c.put_group_if.new.sink c.put_group_if-3.new.sink c.in_ok-put_group_if.ensures
    (hands_more g.K.FieldSink.trace g.K.FieldSink.after c.put_group_if-3.result second third c.put_group_if.new.sink
    c.put_group_if-2.new.sink c.put_group_if-3.new.sink c.in_ok-put_group_if-2.ensures c.put_group_if-3.ensures)
