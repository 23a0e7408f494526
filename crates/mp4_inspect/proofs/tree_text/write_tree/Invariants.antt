-- The earlier boxes are written.
use Rattle.std.proofs.Common.{◌≡◌, take}
use Rattle.std.specs.Prelude.{IfSome}
use Rattle.mp4_inspect.specs.Written.{WritesBoxes}
use Rattle.mp4_inspect.proofs.tree_text.write_tree.Given as goal

abbrev pub invariant-loop-found : goal.invariant-loop-found
invariant-loop-found g l = record {
  written : IfSome l.initial.tree.bytes
      (λ bytes. WritesBoxes g.B.Shown.known g.B.Shown.named_reading g.B.BoxFields.shown l.look bytes
      (take l.found-index l.boxes)
      (g.W.Write.contents l.initial.output.inner) (g.W.Write.contents l.output.inner) l.faulty);
  mark : l.output.failed ≡ l.initial.output.failed;
  kept : l.tree ≡ l.initial.tree;
}
