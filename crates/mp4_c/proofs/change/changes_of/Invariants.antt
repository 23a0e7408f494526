-- The changes are those of the rows before the index.
use Rattle.std.proofs.Common.{take}
use Rattle.std.specs.List.{AllZip}
use Rattle.mp4_c.specs.Changes.{IsChange}
use Rattle.mp4_c.proofs.change.changes_of.Given as goal

abbrev pub invariant-loop-index : goal.invariant-loop-index
invariant-loop-index l = AllZip (IsChange l.data) (take l.index l.rows) l.changes.items
