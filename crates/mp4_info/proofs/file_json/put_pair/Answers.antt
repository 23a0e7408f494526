use Rattle.std.specs.Prelude.{◌++◌}
use Rattle.mp4_info.specs.Members.{member, number_value}
use Rattle.mp4_info.proofs.Sequences.{member_put}
use Rattle.mp4_shown_json.proofs.Puts.{puts_more}
use Rattle.mp4_info.proofs.file_json.put_pair.Goals as goal

pub returns : goal.returns
returns c =
    let first = member c.args.first_name.now (number_value c.args.first) in
    let second = member c.args.second_name.now (number_value c.args.second) in
    member_put c.args.sink.now.out c.key.new.self c.begin_object.new.self c.put_number-2.new.sink.out
    c.end_object.new.self c.args.name.now (first ++ second)
    (c.in_ok-key.ensures.room.0, c.in_ok-key.ensures.ok)
    (c.in_ok-begin_object.ensures.room.0, c.in_ok-begin_object.ensures.ok)
    (puts_more c.begin_object.new.self c.put_number.new.sink.out c.put_number-2.new.sink.out first second
    c.in_ok-put_number.ensures c.in_ok-put_number-2.ensures)
    (c.in_ok-end_object.ensures.room.0, c.in_ok-end_object.ensures.ok)
