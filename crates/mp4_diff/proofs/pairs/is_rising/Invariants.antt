-- The earlier partners rise.
use Rattle.std.proofs.Common.{◌≡◌, drop}
use Rattle.mp4_diff.specs.Pairs.{is_rising}
use Rattle.mp4_diff.proofs.pairs.is_rising.Given as goal

abbrev pub invariant-boxes : goal.invariant-boxes
invariant-boxes l =
    is_rising l.depth l.least (drop l.index l.boxes) (drop l.index l.partners)
    ≡ is_rising l.depth 0 l.boxes l.partners
