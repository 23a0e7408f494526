-- The rows that are left and that only the second box has are not pushed yet.
use Rattle.std.proofs.Common.{◌≡◌, ◌++◌, drop}
use Rattle.mp4_diff.specs.RowChanges.{only_second}
use Rattle.mp4_diff.specs.Rows.{rows_of}
use Rattle.mp4_diff.proofs.row_changes.push_others.Given as goal

abbrev pub invariant-rows : goal.invariant-rows
invariant-rows l = record {
  so_far : l.changes.items ++ only_second l.index (rows_of l.first) (rows_of (drop l.index l.second))
      ≡ l.fn.changes.items ++ only_second 0 (rows_of l.first) (rows_of l.second);
}
