use Rattle.std.proofs.Common.{◌-◌, ◌<◌, refl, sym, subst}
use Rattle.std.proofs.lemmas.Option.{IfSome_then}
use Rattle.mp4_lemmas.proofs.Outcomes.{both_known}
use Rattle.mp4_walk.specs.Source.{Known}
use Rattle.mp4_walk.proofs.Unwound.{level_within, none_comes, step_comes, step_takes}
use Rattle.mp4_walk.proofs.box_walk.BoxWalk.next.Goals as goal

pub returns-then-not-close_levels-clause-comes : goal.returns-then-not-close_levels-clause-comes
returns-then-not-close_levels-clause-comes g c =
    let t = c.self.inside in
    let over = c.close_levels.ensures.over c.if-not-close_levels.true in
    rw (sym c.self.view_is)
    (IfSome_then t.pages.bytes c.self.invariant.known (λ B _.
    none_comes B t.pages.length t.at t.level c.close_levels.new.level t.around.items c.close_levels.new.around.items
    c.self.invariant.nested c.close_levels.ensures.closes over.0 over.1))

pub step_at-requires-clause-within : goal.step_at-requires-clause-within
step_at-requires-clause-within g c =
    let t = c.self.inside in
    level_within t.pages.length t.at t.level c.close_levels.new.level t.around.items c.close_levels.new.around.items
    c.self.invariant.nested c.close_levels.ensures.closes

pub returns-clause-comes : goal.returns-clause-comes
returns-clause-comes g c =
    let t = c.self.inside in
    let inside = c.close_levels.ensures.continues c.if-not-close_levels.false in
    rw (sym c.self.view_is)
    (both_known t.pages.bytes t.pages.bytes refl c.self.invariant.known c.in_ok-step.ensures.step (λ B long is.
    step_comes B t.pages.length t.at t.level c.close_levels.new.level c.go_on.new.level t.around.items
    c.close_levels.new.around.items c.go_on.new.around.items c.in_ok-step.step
    c.self.invariant.nested c.close_levels.ensures.closes inside long
    (is long) c.in_ok-step.ensures.on c.in_ok-go_on.ensures.ok))

pub returns-clause-takes : goal.returns-clause-takes
returns-clause-takes g c =
    let t = c.self.inside in
    rw (sym c.self.view_is)
    (subst (λ (source : Known). source.length - c.in_ok-step.step.at < t.pages.length - t.at)
    (sym c.in_ok-step.ensures.kept)
    (step_takes t.pages.length t.at t.level c.close_levels.new.level t.around.items c.close_levels.new.around.items
    c.in_ok-step.step c.self.invariant.nested c.close_levels.ensures.closes c.in_ok-step.ensures.on))
