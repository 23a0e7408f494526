use Rattle.std.proofs.Common.{[], ◌∷◌}
use Rattle.std.specs.Prelude.{codes}
use Rattle.json.specs.Token.{Token}
use Rattle.mp4_inspect.specs.Json.{type_token}
use Rattle.mp4_shown_json.proofs.Puts.{puts_then}
use Rattle.mp4_inspect.proofs.tree_json.put_type.Goals as goal

pub returns : goal.returns
returns c = record {
  tokens =
      puts_then c.put_code.result c.args.sink.now.out c.key.new.self c.put_code.new.sink.out
      (Token.key (codes "type") ∷ []) (type_token c.args.found.now.code ∷ []) (
        c.in_ok-key.ensures.room.0,
        c.in_ok-key.ensures.ok,
      ) c.put_code.ensures.tokens;
}
