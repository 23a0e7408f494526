use Rattle.std.proofs.Common.{◌≡◌, take}
use Rattle.mp4_declared.proofs.clones.clone_each.Given as goal

abbrev pub invariant-loop-entry : goal.invariant-loop-entry
invariant-loop-entry g l = l.clone ≡ take l.entry-index l.entries
