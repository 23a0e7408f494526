use Rattle.std.proofs.Common.{◌++◌, rules}
use Rattle.mp4_show.proofs.Handed.{hands_more}
use Rattle.mp4_show.specs.Row.{shown_row}
use Rattle.mp4_show.specs.SoundFront.{common_row, shown_first, shown_second}
use Rattle.mp4_show.specs.declared.sound_front.TheConstants.{COMMON, FIRST, SECOND}
use Rattle.mp4_shown.specs.Event.{shown_of}
use Rattle.mp4_shown.specs.Hands.{Hands}
use Rattle.mp4_show.proofs.sound_front.put_with_rate.Goals as goal

pub returns : goal.returns
returns g c =
    let bytes = c.args.bytes.now in
    let quicktime = c.args.quicktime in
    let common = shown_row COMMON.now (common_row quicktime bytes) in
    let first = shown_first FIRST.now quicktime bytes in
    let second = shown_second SECOND.now quicktime bytes (shown_of c.args.rate) in
    let row : Hands g.K.FieldSink.trace g.K.FieldSink.after c.args.sink.now common c.put_row.new.sink = search rules in
    hands_more g.K.FieldSink.trace g.K.FieldSink.after c.put_second.result common (first ++ second) c.args.sink.now
    c.put_row.new.sink c.put_second.new.sink row
    (hands_more g.K.FieldSink.trace g.K.FieldSink.after c.put_second.result first second c.put_row.new.sink
    c.put_first.new.sink c.put_second.new.sink c.in_ok-put_first.ensures c.put_second.ensures)
