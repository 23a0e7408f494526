-- The parts that are pushed, and those that follow, are all of them.
use Rattle.std.proofs.Common.{◌≡◌, ◌++◌}
use Rattle.mp4_remux_files.specs.Fields.{part_fields}
use Rattle.mp4_remux_files.proofs.index.push_parts.Given as goal

abbrev pub invariant-loop-left : goal.invariant-loop-left
invariant-loop-left g l =
    l.fields.items ++ part_fields (g.F.Shift.after l.shift) l.bytes l.left l.begin l.place
    ≡ l.initial.fields.items ++ part_fields (g.F.Shift.after l.shift) l.bytes l.count l.at l.first

abbrev pub decreases-loop-left : goal.decreases-loop-left
decreases-loop-left g l = l.left
