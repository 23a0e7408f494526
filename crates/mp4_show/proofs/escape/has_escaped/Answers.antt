use Rattle.std.proofs.Common.{◌≡◌, Bool, true, false, ◌||◌, sym, ap, ◌∙◌, rules}
use Rattle.std.proofs.lemmas.Str.{IsUtf8-past_char}
use Rattle.std.specs.List.{list_any}
use Rattle.std.specs.Str.{chars}
use Rattle.std.specs.Str.Iter.{chars_rest}
use Rattle.mp4_show.specs.Escaped.{is_escaped}
use Rattle.mp4_show.proofs.Escapes.{any_empty, any_step}
use Rattle.mp4_show.proofs.escape.has_escaped.Goals as goal

pub returns-then-is_escaped : goal.returns-then-is_escaped
returns-then-is_escaped c =
    let held = c.loop-c.invariant in
    let step = any_step _ _ c.in-Some.c held.0 c.in-Some.ensures.steps.0 in
    let yes : is_escaped c.in-Some.c ≡ true = search rules in
    sym (sym held.1 ∙ step ∙ ap (λ (b : Bool). b || list_any is_escaped (chars (chars_rest c.next.new.self))) yes)

pub loop-c-preserved : goal.loop-c-preserved
loop-c-preserved c =
    let held = c.loop-c.invariant in
    let parts = c.in-Some.ensures.steps.0 in
    let step = any_step _ _ c.in-Some.c held.0 parts in
    let no : is_escaped c.in-Some.c ≡ false = search rules in (
      IsUtf8-past_char _ _ c.in-Some.c held.0 parts,
      sym (step ∙ ap (λ (b : Bool). b || list_any is_escaped (chars (chars_rest c.next.new.self))) no) ∙ held.1,
    )

pub returns : goal.returns
returns c =
    let held = c.loop-c.invariant in
    sym (any_empty _ c.in-None.ensures.steps.0.0) ∙ held.1
