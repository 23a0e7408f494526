use Rattle.std.proofs.Common.{◌≡◌, ◌++◌, drop, false, map, rules, string_bytes, sym, true, ◌∙◌, ◌+◌}
use Rattle.std.proofs.lemmas.List.{at_drop_all, at_drop_more}
use Rattle.std.specs.Prelude.{codes}
use Rattle.mp4_show.proofs.FlagNames.{none_named, some_named}
use Rattle.mp4_show.specs.Texts.{flag_names}
use Rattle.mp4_shown.specs.Event.{seen_meaning}
use Rattle.mp4_show.proofs.value_text.push_flag_names.Goals as goal

pub loop-meaning-preserved : goal.loop-meaning-preserved
loop-meaning-preserved c =
    let names = c.args.names.now in
    let i = c.loop-meaning.meaning-index in
    c.in_ok-first.ensures.names (map seen_meaning (drop (i + 1) names))
    ∙ sym (at_drop_more
    (λ ms. string_bytes c.loop-meaning.out ++ flag_names c.loop-meaning.first c.args.flags (map seen_meaning ms))
    names i _ (search rules))
    ∙ c.loop-meaning.invariant

pub returns-then-first : goal.returns-then-first
returns-then-first c =
    let yes : c.loop-meaning.first ≡ true = search rules in
    record {
      text = none_named c.args.flags c.loop-meaning.first (string_bytes c.loop-meaning.out) _ yes
          (sym (at_drop_all
          (λ ms. string_bytes c.loop-meaning.out ++ flag_names c.loop-meaning.first c.args.flags (map seen_meaning ms))
          c.args.names.now c.loop-meaning.meaning-index (search rules))
          ∙ c.loop-meaning.invariant);
    }

pub returns : goal.returns
returns c =
    let no : c.loop-meaning.first ≡ false = search rules in
    let ended : string_bytes c.push.new.self ≡ string_bytes c.loop-meaning.out ++ codes ")" = search rules in
    record {
      text = some_named c.args.flags c.loop-meaning.first (string_bytes c.loop-meaning.out)
          (string_bytes c.push.new.self) _ no ended
          (sym (at_drop_all
          (λ ms. string_bytes c.loop-meaning.out ++ flag_names c.loop-meaning.first c.args.flags (map seen_meaning ms))
          c.args.names.now c.loop-meaning.meaning-index (search rules))
          ∙ c.loop-meaning.invariant);
    }
