-- The earlier entries are equal.
use Rattle.std.proofs.Common.{◌≡◌, ◌+◌, drop, map}
use Rattle.std.specs.Prelude.{vec_items}
use Rattle.mp4_diff.specs.RowChanges.{first_unequal}
use Rattle.mp4_diff.proofs.row_changes.first_unequal.Given as goal

abbrev pub invariant-entries : goal.invariant-entries
invariant-entries l = record {
  so_far : l.index + first_unequal (map vec_items (drop l.index l.first)) (map vec_items (drop l.index l.second))
      ≡ first_unequal (map vec_items l.first) (map vec_items l.second);
}
