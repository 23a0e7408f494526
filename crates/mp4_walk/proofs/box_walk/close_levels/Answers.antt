use Rattle.std.proofs.Common.{List, ◌∷◌, ◌∙◌, append-nil, reverse, subst}
use Rattle.mp4_walk.specs.Walk.{Closes}
use Rattle.mp4_walk.specs.declared.level.Level.{Level}
use Rattle.mp4_walk.proofs.Unwound.{closes_none, closes_more}
use Rattle.mp4_walk.proofs.box_walk.close_levels.Goals as goal

pub loop-level-init : goal.loop-level-init
loop-level-init c = closes_none c.args.at _

pub returns-in-None-clause-closes : goal.returns-in-None-clause-closes
returns-in-None-clause-closes c =
    subst (λ (xs : List Level).
    Closes c.args.at (c.args.level.now ∷ reverse c.args.around.now.items) (c.loop-level.level ∷ reverse xs))
    (c.in-None.ensures.items ∙ append-nil c.pop.new.self.items) c.loop-level.invariant

pub loop-level-preserved : goal.loop-level-preserved
loop-level-preserved c =
    closes_more c.args.at (c.args.level.now ∷ reverse c.args.around.now.items) c.loop-level.level c.in-Some.outer
    c.loop-level.around.items c.pop.new.self.items
    c.loop-level.invariant c.loop-level-test.true c.in-Some.ensures.items
