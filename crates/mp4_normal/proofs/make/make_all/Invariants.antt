-- The changes before the index are made.
use Rattle.std.proofs.Common.{drop}
use Rattle.mp4_normal.proofs.Making.{SoMade}
use Rattle.mp4_normal.proofs.make.make_all.Given as goal

abbrev pub invariant-loop-index : goal.invariant-loop-index
invariant-loop-index l = SoMade l.changes (drop l.changes.growth l.fn.bytes) l.bytes l.made l.index
