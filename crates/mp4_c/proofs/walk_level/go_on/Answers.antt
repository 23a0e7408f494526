use Rattle.std.proofs.Common.{◌+◌, ◌∷◌, refl, sym, ap, subst, ◌∙◌, arith}
use Rattle.std.specs.declared.option.Option.{Option}
use Rattle.mp4_walk.specs.FileBoxes.{GoesDeeper}
use Rattle.mp4_walk.specs.Walk.{with_inner}
use Rattle.mp4_walk.specs.declared.level.Level.{Level}
use Rattle.mp4_c.specs.Levels.{levels_at}
use Rattle.mp4_c.proofs.Levels.{put_level, put_two}
use Rattle.mp4_c.proofs.walk_level.go_on.Goals as goal

pub returns-in-None-clause-levels : goal.returns-in-None-clause-levels
returns-in-None-clause-levels c =
    let s = c.args.step.now in
    put_level c.args.levels.now c.args.depth (c.args.depth + 1) c.row_of.result s.level
    (omega (arith, c.requires.size, c.requires.inside)) c.row_of.ensures c.requires.level refl
    ∙ ap (λ (i : Option Level). with_inner i (s.level ∷ levels_at c.args.levels.now c.args.depth)) (sym c.in-None.is)

pub returns-in-Some-clause-levels : goal.returns-in-Some-clause-levels
returns-in-Some-clause-levels c =
    let s = c.args.step.now in
    let deeper = subst (λ (i : Option Level). GoesDeeper s.level i) c.in-Some.is c.requires.inner in
    put_two c.args.levels.now c.args.depth (c.args.depth + 2) c.row_of.result c.row_of-in-Some.result s.level
    c.in-Some.inner (omega (arith, c.requires.size, c.requires.level, deeper.1)) c.row_of.ensures c.requires.level
    c.row_of-in-Some.ensures (omega (arith, c.requires.level, deeper.0)) refl
    ∙ ap (λ (i : Option Level). with_inner i (s.level ∷ levels_at c.args.levels.now c.args.depth)) (sym c.in-Some.is)
