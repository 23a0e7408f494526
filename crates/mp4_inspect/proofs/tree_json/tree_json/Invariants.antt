-- The text that is written, with the output for the remaining boxes, is the output for all boxes.
use Rattle.std.proofs.Common.{◌≡◌, ◌≤◌}
use Rattle.mp4_inspect.proofs.Json.{Leads}
use Rattle.mp4_inspect.proofs.tree_json.tree_json.Given as goal

abbrev pub invariant-loop-found : goal.invariant-loop-found
invariant-loop-found g l = record {
  written : Leads g.B.Shown.known g.B.Shown.named_reading g.B.BoxFields.shown l.initial.tree.bytes l.boxes l.found-index
      l.begun l.faulty
      l.initial.sink.out l.sink.out;
  room : l.begun ≤ l.found-index;
  kept : l.tree ≡ l.initial.tree;
}
