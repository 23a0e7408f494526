use Rattle.std.proofs.Common.{◌≡◌, List, ℕ, arith, rules, sym, subst, length}
use Rattle.std.proofs.lemmas.Option.{IfSome_then}
use Rattle.std.proofs.lemmas.List.{take_at}
use Rattle.mp4_walk.specs.Source.{IsWindow}
use Rattle.mp4_walk.proofs.step.step_at.Goals as goal

pub returns-clause-step : goal.returns-clause-step
returns-clause-step g c =
    let long : length c.window.new.buffer ≡ c.min-len.result = search rules in
    IfSome_then c.args.pages.now.bytes c.in_ok-window.ensures.bytes (λ B window known.
    c.step_in.ensures.step B (subst (λ (w : List ℕ). IsWindow B c.args.at w) (sym (take_at _ _ _ long)) window)
    (omega (arith, known, c.requires.within)))
