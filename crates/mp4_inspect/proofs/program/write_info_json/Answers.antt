use Rattle.std.proofs.KnownBytes.{Appends-trans}
use Rattle.mp4_inspect.specs.Json.{comma}
use Rattle.mp4_inspect.proofs.program.write_info_json.Goals as goal

pub returns : goal.returns
returns g c = record {
  json = (
    c.in_ok-text.text.items,
    c.in_ok-text.ensures,
    Appends-trans (g.W.Write.contents c.args.output.now.inner) (g.W.Write.contents c.write_comma.new.output.inner)
        (g.W.Write.contents c.write_all.new.output.inner) (comma c.args.follows) c.in_ok-text.text.items
        c.in_ok-write_comma.ensures.comma (rw c.as_slice.ensures.value at c.in_ok-write_all.ensures.bytes),
  );
}
