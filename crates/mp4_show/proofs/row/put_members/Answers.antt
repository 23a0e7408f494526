use Rattle.std.proofs.Common.{map}
use Rattle.mp4_shown.specs.Numbers.{seen_number}
use Rattle.mp4_show.proofs.Handed.{all_members}
use Rattle.mp4_show.specs.Row.{seen_part, shown_row, whole_row}
use Rattle.mp4_show.proofs.row.put_members.Goals as goal

pub returns-clause-whole : goal.returns-clause-whole
returns-clause-whole g c =
    let names = map seen_number c.args.names.now in
    let parts = map seen_part c.args.parts.now in
    all_members g.K.FieldSink.trace g.K.FieldSink.after c.put_row.result (shown_row names parts) c.args.sink.now
    c.put_row.new.sink (whole_row names parts) c.put_row.ensures
