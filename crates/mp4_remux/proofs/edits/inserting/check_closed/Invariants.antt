-- The walk is the same, and the boxes that are passed are closed.
use Rattle.std.proofs.Common.{◌≡◌, take}
use Rattle.std.specs.Prelude.{All, IfSome}
use Rattle.mp4_remux.specs.Edits.{IsClosed}
use Rattle.mp4_remux.proofs.edits.inserting.check_closed.Given as goal

abbrev pub invariant-loop-found : goal.invariant-loop-found
invariant-loop-found g l = record {
  walk : l.walk ≡ l.fn.walk;
  closed : IfSome l.fn.walk.bytes (λ B. All (IsClosed B) (take l.found-index l.boxes));
}
