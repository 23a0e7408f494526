use Rattle.std.proofs.Common.{◌++◌}
use Rattle.mp4_show.proofs.Handed.{hands_more}
use Rattle.mp4_show.specs.Descriptions.{shown_others, shown_video}
use Rattle.mp4_show.specs.Row.{full_row, shown_row}
use Rattle.mp4_show.specs.contracts.fields.entries.Avc1BoxBoxFields.TheImpl.{ghosts as avc1}
use Rattle.mp4_show.specs.contracts.fields.entries.Hev1BoxBoxFields.TheImpl.{ghosts as hev1}
use Rattle.mp4_show.specs.contracts.fields.entries.Tx3gBoxBoxFields.TheImpl.{ghosts as tx3g}
use Rattle.mp4_show.specs.contracts.fields.entries.Vp09BoxBoxFields.TheImpl.{ghosts as vp09}
use Rattle.mp4_show.specs.contracts.fields.sound.Mp4aBoxBoxFields.TheImpl.{ghosts as mp4a}
use Rattle.mp4_show.specs.declared.row.TheConstants.{FULL}
use Rattle.mp4_show.proofs.fields.sound.StsdBoxBoxFields.show.Goals as goal

pub returns : goal.returns
returns g c =
    let b = c.args.self.now in
    let view = c.args.view in
    let video = shown_video (avc1.shown view) (hev1.shown view) (vp09.shown view) b in
    let others = shown_others (mp4a.shown view) (tx3g.shown view) b in
    hands_more g.K.FieldSink.trace g.K.FieldSink.after c.put_others.result
    (shown_row FULL.now (full_row b.version b.flags)) (video ++ others) c.args.sink.now c.put_row.new.sink
    c.put_others.new.sink c.in_ok-put_row.ensures
    (hands_more g.K.FieldSink.trace g.K.FieldSink.after c.put_others.result video others c.put_row.new.sink
    c.put_video.new.sink c.put_others.new.sink c.in_ok-put_video.ensures c.put_others.ensures)
