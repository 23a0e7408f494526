use Rattle.mp4_inspect.proofs.Json.{json_written}
use Rattle.mp4_inspect.proofs.program.show_objects.Goals as goal

pub returns : goal.returns
returns g c = record {
  json =
      json_written g.B.Shown.known g.B.Shown.named_reading g.B.BoxFields.shown c.args.tree.now.bytes c.args.name.now
      c.args.boxes.now c.args.follows c.in_ok-shown.shown.0.items c.in_ok-shown.shown.1
      (g.W.Write.contents c.args.output.now.inner) (g.W.Write.contents c.write_comma.new.output.inner)
      (g.W.Write.contents c.write_all.new.output.inner) c.in_ok-shown.ensures.json c.in_ok-write_comma.ensures.comma
      (rw c.as_slice.ensures.value at c.in_ok-write_all.ensures.bytes);
}
