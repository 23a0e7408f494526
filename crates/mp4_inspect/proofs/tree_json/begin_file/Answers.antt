use Rattle.std.proofs.Common.{[], ◌∷◌}
use Rattle.std.specs.Prelude.{codes}
use Rattle.json.specs.Token.{Token}
use Rattle.mp4_shown_json.proofs.Puts.{puts_more, puts_two}
use Rattle.mp4_inspect.proofs.tree_json.begin_file.Goals as goal

pub returns : goal.returns
returns c = record {
  tokens =
      puts_more c.args.sink.now.out c.begin_object.new.self c.begin_array.new.self (Token.begin_object ∷ [])
      (Token.key (codes "file") ∷ Token.string c.args.name.now ∷ Token.key (codes "boxes") ∷ Token.begin_array ∷ [])
      (c.in_ok-begin_object.ensures.room.0, c.in_ok-begin_object.ensures.ok)
      (puts_more c.begin_object.new.self c.string.new.self c.begin_array.new.self
      (Token.key (codes "file") ∷ Token.string c.args.name.now ∷ [])
      (Token.key (codes "boxes") ∷ Token.begin_array ∷ [])
      (puts_two c.begin_object.new.self c.key.new.self c.string.new.self (Token.key (codes "file"))
      (Token.string c.args.name.now) (c.in_ok-key.ensures.room.0, c.in_ok-key.ensures.ok)
      (c.in_ok-string.ensures.room.0, c.in_ok-string.ensures.ok))
      (puts_two c.string.new.self c.key-2.new.self c.begin_array.new.self (Token.key (codes "boxes")) Token.begin_array
      (c.in_ok-key-2.ensures.room.0, c.in_ok-key-2.ensures.ok) (
        c.in_ok-begin_array.ensures.room.0,
        c.in_ok-begin_array.ensures.ok,
      )));
}
