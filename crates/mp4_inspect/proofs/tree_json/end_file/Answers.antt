use Rattle.json.specs.Token.{Token}
use Rattle.mp4_shown_json.proofs.Puts.{puts_two}
use Rattle.mp4_inspect.proofs.tree_json.end_file.Goals as goal

pub returns : goal.returns
returns c = record {
  tokens =
      puts_two c.args.sink.now.out c.end_array.new.self c.end_object.new.self Token.end_array Token.end_object
      (c.in_ok-end_array.ensures.room.0, c.in_ok-end_array.ensures.ok) (
        c.in_ok-end_object.ensures.room.0,
        c.in_ok-end_object.ensures.ok,
      );
}
