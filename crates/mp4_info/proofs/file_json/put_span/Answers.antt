use Rattle.std.specs.Prelude.{◌++◌, codes}
use Rattle.mp4_info.specs.Members.{duration_value, member, number_value}
use Rattle.mp4_info.proofs.Sequences.{object_put}
use Rattle.mp4_shown_json.proofs.Puts.{puts_more}
use Rattle.mp4_info.proofs.file_json.put_span.Goals as goal

pub returns : goal.returns
returns c =
    let number = member c.args.name.now (number_value c.args.number) in
    let lasts = member (codes "duration") (duration_value c.args.duration) in
    object_put c.args.sink.now.out c.begin_object.new.self c.put_duration_if.new.sink.out c.end_object.new.self
    (number ++ lasts) (c.in_ok-begin_object.ensures.room.0, c.in_ok-begin_object.ensures.ok)
    (puts_more c.begin_object.new.self c.put_number.new.sink.out c.put_duration_if.new.sink.out number lasts
    c.in_ok-put_number.ensures c.in_ok-put_duration_if.ensures)
    (c.in_ok-end_object.ensures.room.0, c.in_ok-end_object.ensures.ok)
