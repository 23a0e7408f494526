use Rattle.std.proofs.Common.{arith, sym}
use Rattle.mp4_inspect.proofs.PatternSteps.{other_length}
use Rattle.mp4_inspect.proofs.pattern.accepts_all.Goals as goal

pub returns-then-steps-path : goal.returns-then-steps-path
returns-then-steps-path c =
    sym (other_length c.args.steps.now c.args.path.now (λ same. absurd (omega (arith, same, c.if-steps-path.true))))
