-- The fields that are pushed, and those that follow, are all of them.
use Rattle.std.proofs.Common.{◌≡◌, ◌++◌}
use Rattle.mp4_remux_files.specs.Fields.{each_field}
use Rattle.mp4_remux_files.proofs.field.push_each.Given as goal

abbrev pub invariant-loop-left : goal.invariant-loop-left
invariant-loop-left g l =
    l.fields.items ++ each_field (g.F.Shift.after l.shift) l.anchor l.bytes l.width l.stride l.left l.begin
    ≡ l.initial.fields.items ++ each_field (g.F.Shift.after l.shift) l.anchor l.bytes l.width l.stride l.count l.at

abbrev pub decreases-loop-left : goal.decreases-loop-left
decreases-loop-left g l = l.left
