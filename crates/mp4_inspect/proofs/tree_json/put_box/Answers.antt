use Rattle.std.proofs.Common.{◌≡◌, ℕ, OnOk, subst}
use Rattle.mp4_inspect.proofs.Json.{puts_box}
use Rattle.mp4_inspect.specs.Json.{open_inside}
use Rattle.mp4_inspect.proofs.tree_json.put_box.Goals as goal

pub returns-clause-tokens : goal.returns-clause-tokens
returns-clause-tokens g c =
    puts_box c.put_end.result g.B.BoxFields.shown c.args.begun.now
    c.args.found.now c.args.content.now c.args.sink.now.out
    c.end_levels.new.sink.out c.put_head.new.sink.out c.put_rest.new.sink.out c.put_end.new.sink.out
    c.in_ok-end_levels.ensures.tokens c.in_ok-put_head.ensures.tokens c.in_ok-put_rest.ensures.rest
    c.put_end.ensures.tokens

pub returns-clause-begun : goal.returns-clause-begun
returns-clause-begun g c =
    subst (λ (n : ℕ). OnOk c.put_end.result (c.put_end.new.begun ≡ open_inside n c.args.found.now.children))
    c.in_ok-end_levels.ensures.begun c.put_end.ensures.begun
