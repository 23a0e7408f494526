-- The kinds before the current box, and those of it and of the boxes after it, are all.
use Rattle.std.proofs.Common.{◌≡◌, ◌++◌, drop}
use Rattle.std.specs.Prelude.{IfSome}
use Rattle.mp4_check.specs.Kinds.{kinds_of}
use Rattle.mp4_check.proofs.samples.kind.kinds_of.Given as goal

abbrev pub invariant-boxes : goal.invariant-boxes
invariant-boxes g l = record {
  kept : l.walk ≡ l.fn.walk;
  all : IfSome l.fn.walk.bytes (λ file. kinds_of file l.boxes ≡ l.kinds.items ++ kinds_of file (drop l.index l.boxes));
}
