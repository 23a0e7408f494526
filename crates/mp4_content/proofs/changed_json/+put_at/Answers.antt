use Rattle.std.proofs.Common.{◌≡◌, ◌<◌, ◌≤◌, [], ◌∷◌, ◌∙◌, length, map, Ok, List, ap, arith, rules, subst, sym}
use Rattle.std.proofs.lemmas.Result.{err_from_is_err_and}
use Rattle.std.specs.List.{insert, remove}
use Rattle.json.specs.Json.{Json, array}
use Rattle.json.specs.Tree.{HasNumbers, ItemsHaveNumbers, MembersHaveNumbers}
use Rattle.json.specs.Value.{items_view, value_view}
use Rattle.json.specs.declared.value.Value.{Array, the_lemmas}
use Rattle.mp4_content.specs.ChangedJson.{put_at}
use Rattle.mp4_content.specs.Field.{place_of}
use Rattle.mp4_content.specs.declared.field.Step.{Step}
use Rattle.mp4_shown.specs.Object.{left}
use Rattle.mp4_shown.specs.Taking.{RefusedAs}
use Rattle.mp4_shown.specs.TakingLaws.{refused_by}
use Rattle.mp4_shown.specs.declared.taken.error.Reason.TheVariants.{Missing}
use Rattle.mp4_content.proofs.JsonChanges.{no_entry, put_entry, refused_entry}
use Rattle.mp4_content.proofs.JsonNumbers.{item_has, items_have, object_has, one_has}
use Rattle.mp4_content.proofs.changed_json.+put_at.Goals.{
  else-is_empty+in_ok-inside-in-Member+in_ok-inside-in-Member-2+in_ok-put_first-in-Member,
  then-is_empty+in_ok-set_member-in-Member,
}
use Rattle.mp4_content.proofs.changed_json.+put_at.Goals as goal

pub put_at-requires : goal.put_at-requires
put_at-requires t c =
    let fewer : length c.in-Some.rest.now < t = omega (arith, c.in-Some.ensures.cases.1, c.decreases) in
    let ms = left c.in_ok-object-in-Member.object in
    let has = object_has (value_view c.args.value) ms c.requires.value c.in_ok-object-in-Member.ensures in
    let inside = c.in_ok-inside-in-Member.inside in
    let one =
    one_has c.in-Member.name.now ms (value_view inside, left c.take_one.new.self) has
    c.in_ok-inside-in-Member.ensures in
    (fewer, (one.0, c.requires.new))

pub put_at-requires-in-Entry : goal.put_at-requires-in-Entry
put_at-requires-in-Entry t c =
    let fewer : length c.in-Some.rest.now < t = omega (arith, c.in-Some.ensures.cases.1, c.decreases) in
    let vs = c.in_ok-items-in-Entry.items.items in
    let less : c.in-Entry.number < length vs = search rules in
    let has = item_has vs c.in-Entry.number c.remove-inside.result less c.in_ok-items-in-Entry.ensures.numbers in
    (fewer, (subst (λ v. HasNumbers (value_view v)) (sym c.remove-inside.ensures.value) has, c.requires.new))

pub returns-after-is_empty-clause-numbers : goal.returns-after-is_empty-clause-numbers
returns-after-is_empty-clause-numbers t c =
    let ms = left c.in_ok-object-in-Member.object in
    let has = object_has (value_view c.args.value) ms c.requires.value c.in_ok-object-in-Member.ensures in
    let members : MembersHaveNumbers (left c.if-is_empty.object) =
    elim c.if-is_empty.branch [
      | then-is_empty+in_ok-set_member-in-Member w ↦
          subst (λ o. MembersHaveNumbers (left o)) (sym w.object-is) w.in_ok-set_member-in-Member.ensures.numbers
      | else-is_empty+in_ok-inside-in-Member+in_ok-inside-in-Member-2+in_ok-put_first-in-Member w ↦
          let inside = w.in_ok-inside-in-Member.inside in
          let one =
          one_has c.in-Member.name.now ms (value_view inside, left w.take_one.new.self) has
          w.in_ok-inside-in-Member.ensures in
          subst (λ o. MembersHaveNumbers (left o)) (sym w.object-is)
          (subst MembersHaveNumbers (sym w.in_ok-put_first-in-Member.ensures)
          (w.in_ok-inside-in-Member-2.ensures.numbers, one.1))
    ] in
    subst HasNumbers (sym c.whole.ensures) members

pub returns-then-number-len-clause-value : goal.returns-then-number-len-clause-value
returns-then-number-len-clause-value t c =
    let vs = c.in_ok-items-in-Entry.items.items in
    let n = c.in-Entry.number in
    let ps = map place_of c.in-Some.rest.now in
    let new = value_view c.args.new in
    let j = value_view c.args.value in
    let more : length vs ≤ n = search rules in
    refused_by c.refuse.result ([], Missing) (put_at (map place_of c.args.steps.now) new j) c.refuse.ensures
    (ap (λ (ss : List Step). put_at (map place_of ss) new j) c.in-Some.ensures.cases.0
    ∙ ap (λ (s : Step). put_at (place_of s ∷ ps) new j) c.in-Entry.is
    ∙ no_entry n ps new j vs more c.in_ok-items-in-Entry.ensures.value)

pub returns-in_err-inside-in-Entry-clause-value : goal.returns-in_err-inside-in-Entry-clause-value
returns-in_err-inside-in-Entry-clause-value t c =
    let vs = c.in_ok-items-in-Entry.items.items in
    let n = c.in-Entry.number in
    let ps = map place_of c.in-Some.rest.now in
    let new = value_view c.args.new in
    let j = value_view c.args.value in
    let e = c.in_err-inside-in-Entry.field-0.0 in
    let less : n < length vs = search rules in
    let steps =
    ap (λ (ss : List Step). put_at (map place_of ss) new j) c.in-Some.ensures.cases.0
    ∙ ap (λ (s : Step). put_at (place_of s ∷ ps) new j) c.in-Entry.is in
    let refused =
    refused_entry e n ps new j vs c.remove-inside.result less c.in_ok-items-in-Entry.ensures.value
    (subst (λ v. RefusedAs e (put_at ps new (value_view v))) c.remove-inside.ensures.value
    c.in_err-inside-in-Entry.ensures.value) in
    let p =
    err_from_is_err_and c.from_residual-in_err-inside-in-Entry.result
    c.from_residual-in_err-inside-in-Entry.ensures.1 in
    rw (p.1, p.2) (subst (λ taking. RefusedAs e taking) (sym steps) refused)

pub returns-in_ok-put_item-in-Entry-clause-value : goal.returns-in_ok-put_item-in-Entry-clause-value
returns-in_ok-put_item-in-Entry-clause-value t c =
    let vs = c.in_ok-items-in-Entry.items.items in
    let n = c.in-Entry.number in
    let ps = map place_of c.in-Some.rest.now in
    let new = value_view c.args.new in
    let j = value_view c.args.value in
    let w = c.in_ok-inside-in-Entry.inside in
    let less : n < length vs = search rules in
    let put =
    put_entry n ps new j vs c.remove-inside.result w less c.in_ok-items-in-Entry.ensures.value
    (subst (λ v. put_at ps new (value_view v) ≡ Ok (value_view w)) c.remove-inside.ensures.value
    c.in_ok-inside-in-Entry.ensures.value) in
    let items : c.put_item.new.items.items ≡ insert (remove vs n) n w =
    c.in_ok-put_item-in-Entry.ensures ∙ ap (λ xs. insert xs n w) c.remove-inside.ensures.items in
    let seen : value_view (Array c.put_item.new.items) ≡ array (items_view c.put_item.new.items.items) =
    search (rules, the_lemmas) in
    ap (λ (ss : List Step). put_at (map place_of ss) new j) c.in-Some.ensures.cases.0
    ∙ ap (λ (s : Step). put_at (place_of s ∷ ps) new j) c.in-Entry.is
    ∙ put
    ∙ ap (λ xs. Ok (array (items_view xs))) (sym items)
    ∙ ap (λ (k : Json). Ok k) (sym seen)

pub returns-in_ok-put_item-in-Entry-clause-numbers : goal.returns-in_ok-put_item-in-Entry-clause-numbers
returns-in_ok-put_item-in-Entry-clause-numbers t c =
    let vs = c.in_ok-items-in-Entry.items.items in
    let n = c.in-Entry.number in
    let w = c.in_ok-inside-in-Entry.inside in
    let less : n < length vs = search rules in
    let items : c.put_item.new.items.items ≡ insert (remove vs n) n w =
    c.in_ok-put_item-in-Entry.ensures ∙ ap (λ xs. insert xs n w) c.remove-inside.ensures.items in
    let seen : value_view (Array c.put_item.new.items) ≡ array (items_view c.put_item.new.items.items) =
    search (rules, the_lemmas) in
    let has =
    items_have vs n w less c.in_ok-items-in-Entry.ensures.numbers c.in_ok-inside-in-Entry.ensures.numbers in
    subst HasNumbers (sym seen) (subst (λ xs. ItemsHaveNumbers (items_view xs)) (sym items) has)
