use Rattle.std.proofs.Common.{◌≤◌}
use Rattle.mp4_walk.specs.Walk.{Closes}
use Rattle.mp4_c.specs.Levels.{levels_at}
use Rattle.mp4_c.proofs.walk_level.close_levels.Given as goal

abbrev pub invariant-close : goal.invariant-close
invariant-close l = record {
  fewer : l.left ≤ l.count;
  closes : Closes l.at (levels_at l.levels l.count) (levels_at l.levels l.left);
}

abbrev pub decreases-close : goal.decreases-close
decreases-close l = l.left
