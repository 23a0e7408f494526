use Rattle.std.proofs.Common.{◌≡◌, ◌==◌, ◌∙◌, ap, lit<, map, rules, subst, sym}
use Rattle.std.proofs.lemmas.Iterator.{YieldsList}
use Rattle.std.proofs.lemmas.Iterator.Splits.{YieldsList-from_str_split}
use Rattle.std.specs.List.{slice_split}
use Rattle.std.specs.Str.Iter.{split_steps}
use Rattle.std.specs.Str.Pattern.{FindsChar}
use Rattle.mp4_content.proofs.FieldSteps.{after, all_entries, first_name, next_entry, no_entry, none_left, pushed}
use Rattle.mp4_content.proofs.FieldSteps.{taken}
use Rattle.mp4_content.proofs.field.push_member.Goals as goal
use Rattle.mp4_content.specs.Field.{entries_in, place_of}

pub loop-piece-init : goal.loop-piece-init
loop-piece-init c =
    let pieces = slice_split (λ b. b == 91) c.args.text.now in
    let split =
    YieldsList-from_str_split 91 c.args.text.now (lit< tt) c.split-pieces.ensures.text
    c.split-pieces.ensures.has_more c.split-pieces.ensures.pattern in
    let (rest, is, more) =
    taken (split_steps FindsChar (λ a b. b ≡ a)) c.split-pieces.result c.next.new.self pieces c.in-Some.name split
    c.in-Some.ensures.steps in
    let same : c.into_iter-piece-iterator.result ≡ c.next.new.self = search rules in (
      rest,
      subst (λ s. YieldsList (split_steps FindsChar (λ a b. b ≡ a)) (λ x. x.now) s rest) (sym same) more,
      ap (λ ps. after ps (entries_in rest))
          (pushed c.args.steps.now.items c.push.new.self.items _ c.in_ok-push.ensures.items)
          ∙ first_name (map place_of c.args.steps.now.items) c.in-Some.name.now pieces rest is,
    )

pub returns-in_default-entry_number : goal.returns-in_default-entry_number
returns-in_default-entry_number c =
    let (pieces, yields, so) = c.loop-piece.invariant in
    let (rest, is, more) =
    taken (split_steps FindsChar (λ a b. b ≡ a)) c.loop-piece.piece-iterator c.next-in-loop-piece.new.self pieces
    c.in-Some-piece.piece yields c.in-Some-piece.ensures.steps in
    sym so
    ∙ no_entry (map place_of c.loop-piece.steps.items) c.in-Some-piece.piece.now pieces rest is
    c.in_default-entry_number.ensures

pub loop-piece-preserved : goal.loop-piece-preserved
loop-piece-preserved c =
    let (pieces, yields, so) = c.loop-piece.invariant in
    let (rest, is, more) =
    taken (split_steps FindsChar (λ a b. b ≡ a)) c.loop-piece.piece-iterator c.next-in-loop-piece.new.self pieces
    c.in-Some-piece.piece yields c.in-Some-piece.ensures.steps in (
      rest,
      more,
      ap (λ ps. after ps (entries_in rest))
          (pushed c.loop-piece.steps.items c.push-in-loop-piece.new.self.items _ c.in_ok-push-2.ensures.items)
          ∙ next_entry (map place_of c.loop-piece.steps.items) c.in-Some-entry_number.number c.in-Some-piece.piece.now
          pieces rest is c.in-Some-entry_number.ensures
          ∙ so,
    )

pub returns : goal.returns
returns c =
    let (pieces, yields, so) = c.loop-piece.invariant in
    let none =
    none_left (split_steps FindsChar (λ a b. b ≡ a)) c.loop-piece.piece-iterator c.next-in-loop-piece.new.self pieces
    yields c.in-None.ensures.steps in
    sym so ∙ all_entries (map place_of c.loop-piece.steps.items) pieces none
