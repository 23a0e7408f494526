use Rattle.mp4_info.proofs.TagSteps.{tags_listed}
use Rattle.mp4_info.proofs.file_json.put_tag_list.Goals as goal

pub returns : goal.returns
returns c =
    tags_listed c.args.sink.now.out c.key.new.self c.begin_array.new.self c.put_tags.new.sink.out c.end_array.new.self
    c.args.tags.now (c.in_ok-key.ensures.room.0, c.in_ok-key.ensures.ok)
    (c.in_ok-begin_array.ensures.room.0, c.in_ok-begin_array.ensures.ok) c.in_ok-put_tags.ensures
    (c.in_ok-end_array.ensures.room.0, c.in_ok-end_array.ensures.ok)
