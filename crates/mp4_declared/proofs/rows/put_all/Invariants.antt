use Rattle.std.proofs.Common.{◌≡◌, ◌+◌, ◌*◌, ◌++◌, take}
use Rattle.std.specs.List.{flat_map}
use Rattle.mp4_declared.proofs.rows.put_all.Given as goal

abbrev pub invariant-loop-row : goal.invariant-loop-row
invariant-loop-row g l = record {
  out : l.next ≡ l.at + g.row.E * l.row-index;
  written : take l.next l.out ≡ take l.at l.initial.out ++ flat_map (λ row. row) (take l.row-index l.rows);
}
