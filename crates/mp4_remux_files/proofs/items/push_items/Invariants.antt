-- The items that are pushed, and those that follow, are all of them.
use Rattle.std.proofs.Common.{◌≡◌, ◌++◌}
use Rattle.mp4_remux_files.specs.Fields.{items_fields}
use Rattle.mp4_remux_files.proofs.items.push_items.Given as goal

abbrev pub invariant-loop-left : goal.invariant-loop-left
invariant-loop-left g l =
    l.fields.items ++ items_fields (g.F.Shift.after l.shift) l.bytes l.sizes l.left l.begin
    ≡ l.initial.fields.items ++ items_fields (g.F.Shift.after l.shift) l.bytes l.sizes l.count l.at

abbrev pub decreases-loop-left : goal.decreases-loop-left
decreases-loop-left g l = l.left
