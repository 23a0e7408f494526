use Rattle.std.proofs.Common.{◌≡◌, ◌+◌, ◌++◌, take}
use Rattle.std.specs.List.{flat_map, sum_by}
use Rattle.mp4_declared.specs.DeclaredEntry.{entry_shape}
use Rattle.mp4_extra_pictures.proofs.counted.put_entries.Given as goal

abbrev pub invariant-loop-entry : goal.invariant-loop-entry
invariant-loop-entry g l =
    let s = entry_shape g.X.Shape.Shape.shape g.X.DeclaredEntry.layout in
    let done = take l.entry-index l.entries in
    record {
      offset : l.next ≡ l.at + sum_by (s.size l.context) done;
      written : take l.next l.out ≡ take l.at l.initial.out ++ flat_map (s.bytes l.context) done;
    }
