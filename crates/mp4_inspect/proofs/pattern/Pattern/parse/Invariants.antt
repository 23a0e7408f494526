-- The steps are those of the texts before the index.
use Rattle.std.proofs.Common.{map, take}
use Rattle.mp4_inspect.specs.PatternText.{AreSteps}
use Rattle.mp4_inspect.proofs.pattern.Pattern.parse.Given as goal

abbrev pub invariant-loop-piece : goal.invariant-loop-piece
invariant-loop-piece l = AreSteps l.anywhere (take l.piece-index (map (λ x. x.now) l.piece-items)) l.steps.items
