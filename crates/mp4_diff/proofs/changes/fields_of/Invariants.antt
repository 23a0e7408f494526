-- The fields that are left are not compared yet.
use Rattle.std.proofs.Common.{◌≡◌, ◌++◌, drop}
use Rattle.mp4_diff.specs.Differences.{differences_of, fields, fields_from}
use Rattle.mp4_diff.specs.Rows.{rows_of}
use Rattle.mp4_diff.proofs.changes.fields_of.Given as goal

abbrev pub invariant-fields : goal.invariant-fields
invariant-fields l =
    differences_of l.whats.items
    ++ fields_from (rows_of l.first) (rows_of l.second) (drop l.change-index l.change-items)
    ≡ fields (rows_of l.first) (rows_of l.second)
