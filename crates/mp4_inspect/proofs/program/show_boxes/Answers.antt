use Rattle.std.proofs.Common.{◌≡◌, Err, rules}
use Rattle.std.specs.Io.KnownBytes.{Appends}
use Rattle.mp4_lemmas.proofs.Outcomes.{always_known}
use Rattle.mp4_inspect.proofs.Boxes.{begins_of_failed, texts_of, beginning_of}
use Rattle.mp4_inspect.proofs.program.show_boxes.Goals as goal

pub returns-in_err-write_all-clause-beginning : goal.returns-in_err-write_all-clause-beginning
returns-in_err-write_all-clause-beginning g c =
    let failed : c.from_residual.result ≡ Err c.in_err-write_all.field-0.0 = search rules in
    let same : c.as_bytes.result.now ≡ c.args.heading.now = search rules in
    rw failed
    (always_known c.args.tree.now.bytes
    (λ bytes all. begins_of_failed g.B.Shown.known g.B.Shown.named_reading g.B.BoxFields.shown c.args.look
    (Unit {0}) c.as_bytes.result.now c.args.heading.now bytes
    (g.W.Write.contents c.args.output.now.inner) (g.W.Write.contents c.write_all.new.output.inner)
    c.in_err-write_all.field-0.0 same c.in_err-write_all.ensures.bytes))

pub returns-clause-texts : goal.returns-clause-texts
returns-clause-texts g c =
    let headed : Appends (g.W.Write.contents c.args.output.now.inner) (g.W.Write.contents c.write_all.new.output.inner)
    c.args.heading.now = search rules in
    texts_of g.B.Shown.known g.B.Shown.named_reading g.B.BoxFields.shown c.args.look
    c.args.heading.now c.args.boxes.now c.args.tree.now.bytes (g.W.Write.contents c.args.output.now.inner)
    (g.W.Write.contents c.write_all.new.output.inner) (g.W.Write.contents c.write_tree.new.output.inner)
    c.write_tree.result headed c.write_tree.ensures.texts

pub returns-clause-beginning : goal.returns-clause-beginning
returns-clause-beginning g c =
    let headed : Appends (g.W.Write.contents c.args.output.now.inner) (g.W.Write.contents c.write_all.new.output.inner)
    c.args.heading.now = search rules in
    beginning_of g.B.Shown.known g.B.Shown.named_reading g.B.BoxFields.shown c.args.look
    c.args.heading.now c.args.boxes.now c.args.tree.now.bytes (g.W.Write.contents c.args.output.now.inner)
    (g.W.Write.contents c.write_all.new.output.inner) (g.W.Write.contents c.write_tree.new.output.inner)
    c.write_tree.result headed c.write_tree.ensures.beginning
