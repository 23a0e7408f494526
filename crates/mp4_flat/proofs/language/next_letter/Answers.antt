use Rattle.std.proofs.Common.{ℕ, ◌%◌, List, drop, sym, ap, ◌∙◌}
use Rattle.std.specs.Prelude.{slice_index}
use Rattle.mp4_flat.proofs.Units.{no_unit, first_unit}
use Rattle.mp4_flat.proofs.language.next_letter.Goals as goal
use Rattle.mp4_flat.specs.Language.{units_left}

abbrev letter : List ℕ → ℕ
letter units = slice_index units 0 % 32

pub returns-in-Some-clause-letter : goal.returns-in-Some-clause-letter
returns-in-Some-clause-letter c =
    ap letter (sym (first_unit c.args.units.now c.next.new.self _ c.requires c.in-Some.ensures.steps).0)

pub returns-in-Some-clause-left : goal.returns-in-Some-clause-left
returns-in-Some-clause-left c =
    ap (drop 1) (sym (first_unit c.args.units.now c.next.new.self _ c.requires c.in-Some.ensures.steps).0)

pub returns-in-Some-clause-text : goal.returns-in-Some-clause-text
returns-in-Some-clause-text c = (first_unit c.args.units.now c.next.new.self _ c.requires c.in-Some.ensures.steps).1

pub returns-in-None-clause-letter : goal.returns-in-None-clause-letter
returns-in-None-clause-letter c = ap letter (sym (no_unit _ _ c.in-None.ensures.steps))

pub returns-in-None-clause-left : goal.returns-in-None-clause-left
returns-in-None-clause-left c =
    let none = no_unit _ _ c.in-None.ensures.steps in
    ap units_left c.in-None.ensures.steps.2 ∙ none ∙ ap (drop 1) (sym none)
