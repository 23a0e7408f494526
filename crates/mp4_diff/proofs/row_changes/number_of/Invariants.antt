-- No earlier row has the name.
use Rattle.std.proofs.Common.{◌≡◌, ◌+◌, drop}
use Rattle.std.specs.Prelude.{option_map}
use Rattle.mp4_diff.specs.RowChanges.{number_of}
use Rattle.mp4_diff.specs.Rows.{rows_of}
use Rattle.mp4_diff.proofs.row_changes.number_of.Given as goal

abbrev pub invariant-rows : goal.invariant-rows
invariant-rows l = record {
  so_far : option_map (λ n. l.index + n) (number_of l.name (rows_of (drop l.index l.rows)))
      ≡ number_of l.name (rows_of l.rows);
}
