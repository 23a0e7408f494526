use Rattle.std.proofs.Common.{ℕ, ◌-◌, refl, ap, ◌∙◌}
use Rattle.mp4_walk.specs.Peek.{peek}
use Rattle.mp4_walk.proofs.Steps.{found_goes_deep, found_goes_on}
use Rattle.mp4_walk.proofs.Windows.{step_window}
use Rattle.mp4_walk.proofs.step.step_in.Goals as goal

pub returns-clause-step : goal.returns-clause-step
returns-clause-step c B window within =
    let x = c.found_at-found in
    let inside = x.ensures.inside in
    step_window B c.args.window.now c.args.window.now c.args.level c.args.at x.result c.peek_at-peek.result
    c.step_of.result refl window within c.requires.inside c.requires.long x.ensures.found inside.0 inside.2
    x.ensures.near
    (c.peek_at-peek.ensures
    ∙ ap (λ (end : ℕ). peek c.args.window.now x.result.header_length (end - c.args.at)) c.end_within.ensures)
    c.step_of.ensures

pub returns-clause-on : goal.returns-clause-on
returns-clause-on c =
    let inside = c.found_at-found.ensures.inside in
    found_goes_on c.args.level c.args.at c.found_at-found.result inside.0 inside.1 inside.2 c.peek_at-peek.result
    c.step_of.result c.step_of.ensures

pub returns-clause-deep : goal.returns-clause-deep
returns-clause-deep c =
    found_goes_deep c.args.level c.found_at-found.result c.peek_at-peek.result c.step_of.result c.step_of.ensures
