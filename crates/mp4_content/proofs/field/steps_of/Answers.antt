use Rattle.std.proofs.Common.{◌≡◌, ◌==◌, ◌∙◌, ap, false, lit<, map, rules, subst, sym, true}
use Rattle.std.proofs.lemmas.Iterator.{YieldsList}
use Rattle.std.proofs.lemmas.Iterator.Splits.{YieldsList-from_str_split}
use Rattle.std.specs.List.{slice_split}
use Rattle.std.specs.Str.Iter.{split_steps}
use Rattle.std.specs.Str.Pattern.{FindsChar}
use Rattle.mp4_content.proofs.FieldSteps.{after, all_members, from_none, if_valid, next_member, no_member, none_left}
use Rattle.mp4_content.proofs.FieldSteps.{taken, unless_valid}
use Rattle.mp4_content.proofs.field.steps_of.Goals as goal
use Rattle.mp4_content.specs.Field.{member_places, place_of, places_in}

pub loop-text-init : goal.loop-text-init
loop-text-init c =
    let same : c.into_iter-text-iterator.result ≡ c.split-text-items.result = search rules in
    let pieces = slice_split (λ b. b == 46) c.args.field.now in
    let split =
    YieldsList-from_str_split 46 c.args.field.now (lit< tt) c.split-text-items.ensures.text
    c.split-text-items.ensures.has_more c.split-text-items.ensures.pattern in (
      pieces,
      subst (λ s. YieldsList (split_steps FindsChar (λ a b. b ≡ a)) (λ x. x.now) s pieces) (sym same) split,
      ap (λ steps. after (map place_of steps) (places_in pieces)) c.new-steps.ensures.items
          ∙ from_none (places_in pieces),
    )

pub returns-then-not-branch : goal.returns-then-not-branch
returns-then-not-branch c =
    let (pieces, yields, so) = c.loop-text.invariant in
    let (rest, is, more) =
    taken (split_steps FindsChar (λ a b. b ≡ a)) c.loop-text.text-iterator c.next.new.self pieces c.in-Some.text yields
    c.in-Some.ensures.steps in
    let done = map place_of c.loop-text.steps.items in
    let invalid : c.in_ok-push_member.field-0 ≡ false = search rules in
    let none =
    unless_valid c.in_ok-push_member.field-0 (after done (member_places c.in-Some.text.now)) _
    c.in_ok-push_member.ensures invalid in
    sym (no_member done c.in-Some.text.now pieces rest is none) ∙ so

pub loop-text-preserved : goal.loop-text-preserved
loop-text-preserved c =
    let (pieces, yields, so) = c.loop-text.invariant in
    let (rest, is, more) =
    taken (split_steps FindsChar (λ a b. b ≡ a)) c.loop-text.text-iterator c.next.new.self pieces c.in-Some.text yields
    c.in-Some.ensures.steps in
    let done = map place_of c.loop-text.steps.items in
    let next = map place_of c.push_member.new.steps.items in
    let valid : c.in_ok-push_member.field-0 ≡ true = search rules in
    let some =
    if_valid c.in_ok-push_member.field-0 (after done (member_places c.in-Some.text.now)) next
    c.in_ok-push_member.ensures valid in
    (rest, more, next_member done next c.in-Some.text.now pieces rest is some ∙ so)

pub returns : goal.returns
returns c =
    let (pieces, yields, so) = c.loop-text.invariant in
    let none =
    none_left (split_steps FindsChar (λ a b. b ≡ a)) c.loop-text.text-iterator c.next.new.self pieces yields
    c.in-None.ensures.steps in
    sym (all_members (map place_of c.loop-text.steps.items) pieces none) ∙ so
