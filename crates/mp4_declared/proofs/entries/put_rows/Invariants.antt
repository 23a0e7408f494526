use Rattle.std.proofs.Common.{◌≡◌, ◌+◌, ◌*◌, ◌++◌, take}
use Rattle.std.specs.List.{flat_map}
use Rattle.mp4_declared.specs.Layout.{layout_in, row_of}
use Rattle.mp4_declared.proofs.entries.put_rows.Given as goal

abbrev pub invariant-loop-entry : goal.invariant-loop-entry
invariant-loop-entry g l = record {
  out : l.next ≡ l.at + g.row.E * l.entry-index;
  written : take l.next l.out ≡ take l.at l.initial.out ++ flat_map (row_of (layout_in g.X.EntryLayout.layout))
      (take l.entry-index l.entries);
}
