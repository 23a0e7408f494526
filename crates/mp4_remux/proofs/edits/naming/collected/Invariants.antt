-- The walk is the same, and the edits that are passed have these splices.
use Rattle.std.proofs.Common.{◌≡◌, take}
use Rattle.std.specs.List.{AllZip}
use Rattle.std.specs.Prelude.{IfSome, filter}
use Rattle.mp4_walk.specs.FileBoxes.{boxes_of}
use Rattle.mp4_remux.specs.Edits.{IsSpliceOf, is_kind}
use Rattle.mp4_remux.proofs.edits.naming.collected.Given as goal

abbrev pub invariant-loop-edit : goal.invariant-loop-edit
invariant-loop-edit g l = record {
  walk : l.walk ≡ l.fn.walk;
  named :
      IfSome l.fn.walk.bytes
      (λ B. l.boxes ≡ boxes_of B
      → AllZip (IsSpliceOf B) (filter (is_kind l.hides) (take l.edit-index l.edits)) l.splices.items);
}
