use Rattle.std.proofs.Common.{◌≡◌, Err, length, rules, sym}
use Rattle.std.specs.Prelude.{◌==◌, not}
use Rattle.mp4_inspect.proofs.FoundFields.{nothing_of_fields, fields_begun, fields_written}
use Rattle.mp4_inspect.proofs.get.write_fields.Goals as goal
use Rattle.mp4_inspect.specs.Fields.{field_got}

pub returns-in_err-walk-clause-field : goal.returns-in_err-walk-clause-field
returns-in_err-walk-clause-field g c =
    let failed : c.from_residual.result ≡ Err c.in_err-walk.field-0.0 = search rules in
    rw failed
    (nothing_of_fields g.B.Shown.known g.B.Shown.named_reading g.B.BoxFields.shown c.args.field.now c.args.pattern.now
    (g.S.Source.all c.args.source) (g.W.Write.contents c.args.output.now.inner) c.in_err-walk.field-0.0)

pub returns-in_err-chosen-clause-field : goal.returns-in_err-chosen-clause-field
returns-in_err-chosen-clause-field g c =
    let failed : c.from_residual-in_err-chosen.result ≡ Err c.in_err-chosen.field-0.0 = search rules in
    rw failed
    (nothing_of_fields g.B.Shown.known g.B.Shown.named_reading g.B.BoxFields.shown c.args.field.now c.args.pattern.now
    (g.S.Source.all c.args.source) (g.W.Write.contents c.args.output.now.inner) c.in_err-chosen.field-0.0)

pub returns-in_err-has_field-clause-field : goal.returns-in_err-has_field-clause-field
returns-in_err-has_field-clause-field g c =
    let failed : c.from_residual-in_err-has_field.result ≡ Err c.in_err-has_field.field-0.0 = search rules in
    let same : c.deref.result.now ≡ c.in_ok-walk.boxes.items = search rules in
    let all_of : c.deref-2.result.now ≡ c.in_ok-chosen.chosen.items = search rules in
    rw failed
    (fields_begun g.B.Shown.known g.B.Shown.named_reading g.B.BoxFields.shown c.args.field.now c.args.pattern.now
    (g.S.Source.all c.args.source) c.in_ok-walk.walk.bytes c.in_ok-walk.boxes.items c.deref-2.result.now
    (g.W.Write.contents c.args.output.now.inner) (g.W.Write.contents c.write_lines.new.output.inner)
    c.in_err-has_field.field-0.0 c.in_ok-walk.ensures.bytes c.in_ok-walk.ensures.boxes
    (rw all_of (rw (sym same) (rw c.in_ok-chosen.ensures.ok at c.boxes_at.ensures.boxes)))
    c.in_err-has_field.ensures.lines)

pub returns-clause-field : goal.returns-clause-field
returns-clause-field g c =
    let chosen = c.in_ok-chosen.chosen.items in
    let any = c.in_ok-has_field.has_field in
    let same : c.deref.result.now ≡ c.in_ok-walk.boxes.items = search rules in
    let all_of : c.deref-2.result.now ≡ chosen = search rules in
    let found : c.field_got.result ≡ field_got (not (length chosen == 0)) any = search rules in
    fields_written g.B.Shown.known g.B.Shown.named_reading g.B.BoxFields.shown c.args.field.now c.args.pattern.now
    (g.S.Source.all c.args.source) c.in_ok-walk.walk.bytes c.in_ok-walk.boxes.items chosen
    (g.W.Write.contents c.args.output.now.inner) (g.W.Write.contents c.write_lines.new.output.inner) any
    c.field_got.result c.in_ok-walk.ensures.bytes c.in_ok-walk.ensures.boxes
    (rw (sym same) (rw c.in_ok-chosen.ensures.ok at c.boxes_at.ensures.boxes))
    (rw all_of at c.in_ok-has_field.ensures.lines) found
