use Rattle.std.specs.Prelude.{decimal}
use Rattle.json.specs.Token.{Token}
use Rattle.mp4_shown_json.proofs.Puts.{puts_two}
use Rattle.mp4_inspect.proofs.tree_json.put_number.Goals as goal

pub returns : goal.returns
returns c = record {
  tokens =
      puts_two c.args.sink.now.out c.key.new.self c.u64.new.self (Token.key c.args.name.now)
      (Token.number (decimal c.args.number)) (c.in_ok-key.ensures.room.0, c.in_ok-key.ensures.ok)
      (c.in_ok-u64.ensures.room.0, c.in_ok-u64.ensures.ok);
}
