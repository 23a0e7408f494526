-- The orders in the boxes that are left are not appended yet.
use Rattle.std.proofs.Common.{◌≡◌, ◌++◌, [], drop, fold, take}
use Rattle.mp4_content.specs.Paths.{AreOpen, entered}
use Rattle.mp4_diff.specs.Differences.{orders_from, orders_with, places_of}
use Rattle.mp4_diff.proofs.changes.push_orders.Given as goal

abbrev pub invariant-boxes : goal.invariant-boxes
invariant-boxes l = record {
  opened : AreOpen (fold entered [] (take l.index l.first)) l.paths.levels.items;
  so_far : places_of l.changes.items
      ++ orders_from (fold entered [] (take l.index l.first)) (drop l.index l.first) (drop l.index l.partners) l.second
      ≡ places_of l.fn.changes.items ++ orders_with l.first l.partners l.second;
}
