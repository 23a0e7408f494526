-- The closed levels are over. Each iteration takes one of the enclosing levels.
use Rattle.std.proofs.Common.{◌∷◌, reverse, vec_len}
use Rattle.mp4_walk.specs.Walk.{Closes}
use Rattle.mp4_walk.proofs.box_walk.close_levels.Given as goal

abbrev pub invariant-loop-level : goal.invariant-loop-level
invariant-loop-level l =
    Closes l.at (l.initial.level ∷ reverse l.initial.around.items) (l.level ∷ reverse l.around.items)

abbrev pub decreases-loop-level : goal.decreases-loop-level
decreases-loop-level l = vec_len l.around
