use Rattle.std.proofs.Common.{◌≡◌, ℕ, suc, ◌-◌, arith, rules, subst}
use Rattle.mp4_inspect.proofs.Json.{puts_level, puts_no_level}
use Rattle.mp4_inspect.specs.Json.{levels_end}
use Rattle.mp4_shown_json.specs.Tokens.{Puts}
use Rattle.mp4_inspect.proofs.tree_json.end_levels.Goals as goal

pub loop-begun-init : goal.loop-begun-init
loop-begun-init c = record {
  tokens = puts_no_level c.args.begun.now c.args.sink.now.out;
  least = search rules;
  within = search rules;
}

pub loop-begun-preserved : goal.loop-begun-preserved
loop-begun-preserved c =
    let more : c.args.begun.now - (c.loop-begun.begun - 1) ≡ suc (c.args.begun.now - c.loop-begun.begun) = omega
    arith in
    record {
      tokens =
          puts_level (c.args.begun.now - c.loop-begun.begun) (c.args.begun.now - (c.loop-begun.begun - 1))
          c.args.sink.now.out c.loop-begun.sink.out c.end_array.new.self c.end_object.new.self more
          c.loop-begun.invariant.tokens (c.in_ok-end_array.ensures.room.0, c.in_ok-end_array.ensures.ok)
          (c.in_ok-end_object.ensures.room.0, c.in_ok-end_object.ensures.ok);
      least = omega arith;
      within = omega arith;
    }

pub returns-clause-tokens : goal.returns-clause-tokens
returns-clause-tokens c =
    let same : c.args.begun.now - c.loop-begun.begun ≡ c.args.begun.now - c.args.depth = omega arith in
    subst (λ (n : ℕ). Puts c.args.sink.now.out c.loop-begun.sink.out (levels_end n)) same
    c.loop-begun.invariant.tokens
