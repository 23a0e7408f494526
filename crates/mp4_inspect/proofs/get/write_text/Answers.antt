use Rattle.std.proofs.Common.{◌≡◌, length, rules, sym}
use Rattle.std.specs.Prelude.{◌==◌, not}
use Rattle.mp4_inspect.proofs.TreeSteps.{trees_written}
use Rattle.mp4_inspect.proofs.get.write_text.Goals as goal
use Rattle.mp4_inspect.specs.Patterns.{got_of}

pub returns : goal.returns
returns g c =
    let shown = c.in_ok-shown.shown.items in
    let faulty = c.in_ok-faulty.faulty in
    let same : c.deref.result.now ≡ c.in_ok-walk.boxes.items = search rules in
    let all_of : c.deref-2.result.now ≡ shown = search rules in
    let found : c.got_of.result ≡ got_of (not (length shown == 0)) faulty = search rules in
    record {
      trees =
          trees_written g.B.Shown.known g.B.Shown.named_reading c.args.pattern.now g.B.BoxFields.shown c.args.look
          (g.S.Source.all c.args.source)
          c.in_ok-walk.walk.bytes c.in_ok-walk.boxes.items shown
          (g.W.Write.contents c.args.output.now.inner) (g.W.Write.contents c.write_tree.new.output.inner) faulty
          c.got_of.result c.in_ok-walk.ensures.bytes c.in_ok-walk.ensures.boxes
          (rw (sym same) (rw c.in_ok-shown.ensures.ok at c.trees_at.ensures.boxes))
          (rw all_of at c.in_ok-faulty.ensures.texts) found;
    }
