use Rattle.std.proofs.Common.{List, None, Some, map, refl, rules, tests, ap, ◌∙◌}
use Rattle.std.proofs.lemmas.Iterator.{YieldsList-from_slice}
use Rattle.std.proofs.lemmas.Iterator.Search.{find_from_yields_List}
use Rattle.std.specs.Option.{option_map}
use Rattle.std.specs.Slice.Iter.{iter_rest}
use Rattle.mp4_walk.specs.Names.{box_name, name_in}
use Rattle.mp4_walk.proofs.NamesFound.{Stored, row_of, has_code, name_found}
use Rattle.mp4_walk.proofs.name.name_of.Goals as goal

pub returns-in_err-row : goal.returns-in_err-row
unfolding box_name
returns-in_err-row c =
    let rows = iter_rest c.iter.result in
    let found =
    find_from_yields_List (has_code c.args.code.value) c.find.new.self _ None c.in_err-row.ensures.ran
    (YieldsList-from_slice rows refl) (λ x b q k. search (rules, tests)) in
    ap (option_map (λ name. name.now)) c.from_residual.ensures
    ∙ ap (option_map (λ (row : Stored). row.1.now)) found
    ∙ name_found c.args.code.value rows
    ∙ ap (λ (stored : List Stored). name_in (map row_of stored) c.args.code.value) c.iter.ensures.rest

pub returns : goal.returns
unfolding box_name
returns c =
    let rows = iter_rest c.iter.result in
    let found =
    find_from_yields_List (has_code c.args.code.value) c.find.new.self _ (Some c.in_ok-row.row) c.in_ok-row.ensures.ran
    (YieldsList-from_slice rows refl) (λ x b q k. search (rules, tests)) in
    ap (option_map (λ (row : Stored). row.1.now)) found
    ∙ name_found c.args.code.value rows
    ∙ ap (λ (stored : List Stored). name_in (map row_of stored) c.args.code.value) c.iter.ensures.rest
