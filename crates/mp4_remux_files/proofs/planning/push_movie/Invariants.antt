-- The first parts are added.
use Rattle.std.proofs.Common.{◌≡◌, ◌++◌, ◌-◌, ◌≤◌, ℕ, List, length, take}
use Rattle.mp4_remux.specs.Pieces.{spelled}
use Rattle.mp4_walk.specs.Source.{IsWindow}
use Rattle.mp4_remux_files.proofs.planning.push_movie.Given as goal

abbrev pub invariant-loop-at : goal.invariant-loop-at
invariant-loop-at l = record {
  within : l.at ≤ length l.made;
  parts : (B : List ℕ) → IsWindow B l.begin l.movie → spelled B l.plan ≡ spelled B l.initial.plan ++ take l.at l.made;
}

abbrev pub decreases-loop-at : goal.decreases-loop-at
decreases-loop-at l = length l.made - l.at
