-- The changes of the rows that are left are not pushed yet.
use Rattle.std.proofs.Common.{◌≡◌, ◌++◌, drop}
use Rattle.mp4_diff.specs.RowChanges.{changes_from}
use Rattle.mp4_diff.specs.Rows.{rows_of}
use Rattle.mp4_diff.proofs.row_changes.push_changes.Given as goal

abbrev pub invariant-rows : goal.invariant-rows
invariant-rows l = record {
  so_far : l.changes.items ++ changes_from l.index (rows_of (drop l.index l.first)) (rows_of l.second)
      ≡ l.fn.changes.items ++ changes_from 0 (rows_of l.first) (rows_of l.second);
}
