use Rattle.std.proofs.Common.{◌≤◌, length, min, arith, rules}
use Rattle.std.specs.Prelude.{vec_items}
use Rattle.mp4_diff.proofs.RowSteps.{unequal_ends}
use Rattle.mp4_diff.proofs.row_changes.first_unequal.Goals as goal

pub returns : goal.returns
returns c =
    let ends : min (length c.args.first.now) (length c.args.second.now) ≤ c.entries.index = search rules in
    omega (
      arith,
      c.entries.invariant.so_far,
      unequal_ends vec_items c.entries.index c.args.first.now c.args.second.now ends,
      c.entries-test.false,
      c.entries.auto.index-end,
    )
