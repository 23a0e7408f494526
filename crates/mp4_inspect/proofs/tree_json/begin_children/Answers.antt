use Rattle.std.specs.Prelude.{codes}
use Rattle.json.specs.Token.{Token}
use Rattle.mp4_shown_json.proofs.Puts.{puts_two}
use Rattle.mp4_inspect.proofs.tree_json.begin_children.Goals as goal

pub returns-clause-tokens : goal.returns-clause-tokens
returns-clause-tokens c =
    puts_two c.args.sink.now.out c.key.new.self c.begin_array.new.self (Token.key (codes "children"))
    Token.begin_array (c.in_ok-key.ensures.room.0, c.in_ok-key.ensures.ok) (
      c.in_ok-begin_array.ensures.room.0,
      c.in_ok-begin_array.ensures.ok,
    )
