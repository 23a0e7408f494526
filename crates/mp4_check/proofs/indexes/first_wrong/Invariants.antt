-- The subsegments before the current one begin where boxes do.
use Rattle.std.proofs.Common.{◌≡◌, ℕ, List, drop}
use Rattle.mp4_check.specs.Indexes.{AreStarts, first_wrong}
use Rattle.mp4_walk.specs.declared.tree_box.TreeBox.{TreeBox}
use Rattle.mp4_check.proofs.indexes.first_wrong.Given as goal

abbrev pub invariant-loop-entry : goal.invariant-loop-entry
invariant-loop-entry l = (boxes : List TreeBox) (length : ℕ) → AreStarts boxes length l.starts
    → first_wrong boxes length l.begin 0 l.entries
    ≡ first_wrong boxes length l.position l.before (drop l.entry-index l.entries)
