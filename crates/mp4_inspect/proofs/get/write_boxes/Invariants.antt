-- The earlier boxes are written.
use Rattle.std.proofs.Common.{◌≡◌, take}
use Rattle.std.specs.Prelude.{IfSome, flat_map}
use Rattle.std.specs.Io.KnownBytes.{Appends}
use Rattle.mp4_content.specs.Pieces.{bytes_of_box}
use Rattle.mp4_inspect.proofs.get.write_boxes.Given as goal

abbrev pub invariant-boxes : goal.invariant-boxes
invariant-boxes g l = record {
  kept : l.walk ≡ l.fn.walk;
  so_far : IfSome l.fn.walk.bytes (λ file.
      Appends (g.W.Write.contents l.fn.output.inner) (g.W.Write.contents l.output.inner)
      (flat_map (bytes_of_box l.content file) (take l.found-index l.chosen)));
}
