-- The entries that are taken and those that are left are all entries.
use Rattle.std.proofs.Common.{◌≡◌, ◌+◌, length}
use Rattle.json.specs.Value.{items_view}
use Rattle.mp4_shown.specs.TakenRuns.{each_taken}
use Rattle.mp4_shown.proofs.EachSteps.{continued}
use Rattle.mp4_shown.proofs.taken.each.take_each.Given as goal

abbrev pub invariant-loop-index : goal.invariant-loop-index
invariant-loop-index g l = record {
  told : continued l.entries.items
      (each_taken (g.T.TakeItem.taken l.by) l.name l.index (items_view l.rest.items))
      ≡ each_taken (g.T.TakeItem.taken l.by) l.name 0 (items_view l.fn.items.items);
  counted : l.index + length l.rest.items ≡ l.count;
}
