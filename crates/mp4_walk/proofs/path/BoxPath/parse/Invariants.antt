-- The parts are those of the texts before the index.
use Rattle.std.proofs.Common.{map, take}
use Rattle.std.specs.List.{AllZip}
use Rattle.mp4_walk.specs.PathText.{IsPart}
use Rattle.mp4_walk.proofs.path.BoxPath.parse.Given as goal

abbrev pub invariant-loop-piece : goal.invariant-loop-piece
invariant-loop-piece l = AllZip IsPart (take l.piece-index (map (λ x. x.now) l.piece-items)) l.parts.items
