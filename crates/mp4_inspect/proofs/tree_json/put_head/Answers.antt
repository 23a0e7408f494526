use Rattle.mp4_inspect.proofs.Json.{puts_head}
use Rattle.mp4_inspect.proofs.tree_json.put_head.Goals as goal

pub returns : goal.returns
returns c = record {
  tokens =
      puts_head c.put_number-3.result c.args.found.now c.args.sink.now.out c.begin_object.new.self
      c.put_type.new.sink.out c.put_number.new.sink.out c.put_number-2.new.sink.out c.put_number-3.new.sink.out
      (c.in_ok-begin_object.ensures.room.0, c.in_ok-begin_object.ensures.ok)
      c.in_ok-put_type.ensures.tokens c.in_ok-put_number.ensures.tokens c.in_ok-put_number-2.ensures.tokens
      c.put_number-3.ensures.tokens;
}
