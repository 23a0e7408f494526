-- No reference before the current box is to another file.
use Rattle.std.proofs.Common.{◌≡◌, drop}
use Rattle.std.specs.Prelude.{IfSome}
use Rattle.mp4_check.specs.References.{is_away}
use Rattle.mp4_check.proofs.references.is_away.Given as goal

abbrev pub invariant-loop-found : goal.invariant-loop-found
invariant-loop-found g l = record {
  kept : l.walk ≡ l.fn.walk;
  left : IfSome l.fn.walk.bytes (λ file. is_away file l.trak ≡ is_away file (drop l.found-index l.trak));
}
