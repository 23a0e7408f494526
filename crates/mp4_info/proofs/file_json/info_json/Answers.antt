use Rattle.mp4_info.proofs.FileJson.{object_is}
use Rattle.mp4_info.proofs.file_json.info_json.Goals as goal

pub returns : goal.returns
returns c =
    object_is c.json_text.result (λ text. text.items) c.new-sink.result.out c.begin_object.new.self
    c.put_file.new.sink.out c.end_object.new.self c.args.name.now c.args.facts.now c.new-sink.ensures.before
    c.new-sink.ensures.tokens (c.in_ok-begin_object.ensures.room.0, c.in_ok-begin_object.ensures.ok)
    c.in_ok-put_file.ensures (c.in_ok-end_object.ensures.room.0, c.in_ok-end_object.ensures.ok)
    c.json_text.ensures.text
