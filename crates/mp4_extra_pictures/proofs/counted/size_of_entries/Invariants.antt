use Rattle.std.proofs.Common.{◌≡◌, ◌-◌, ◌^◌, min, take}
use Rattle.std.specs.List.{sum_by}
use Rattle.mp4_declared.specs.DeclaredEntry.{entry_shape}
use Rattle.mp4_extra_pictures.proofs.counted.size_of_entries.Given as goal

abbrev pub invariant-loop-entry : goal.invariant-loop-entry
invariant-loop-entry g l =
    let s = entry_shape g.X.Shape.Shape.shape g.X.DeclaredEntry.layout in
    l.size ≡ min (sum_by (s.size l.context) (take l.entry-index l.entries)) (2 ^ 64 - 1)
