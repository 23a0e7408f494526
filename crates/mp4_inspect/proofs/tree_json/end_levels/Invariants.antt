-- The levels above the present one are ended.
use Rattle.std.proofs.Common.{◌≡◌, ◌-◌, ◌≤◌}
use Rattle.std.specs.Prelude.{min}
use Rattle.mp4_inspect.specs.Json.{levels_end}
use Rattle.mp4_shown_json.specs.Tokens.{Puts}
use Rattle.mp4_inspect.proofs.tree_json.end_levels.Given as goal

abbrev pub invariant-loop-begun : goal.invariant-loop-begun
invariant-loop-begun l = record {
  tokens : Puts l.initial.sink.out l.sink.out (levels_end (l.initial.begun - l.begun));
  least : min l.depth l.begun ≡ min l.depth l.initial.begun;
  within : l.begun ≤ l.initial.begun;
}

abbrev pub decreases-loop-begun : goal.decreases-loop-begun
decreases-loop-begun l = l.begun
