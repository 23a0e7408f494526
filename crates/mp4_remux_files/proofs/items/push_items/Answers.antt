use Rattle.std.proofs.Common.{◌++◌, ◌∙◌, ap, arith}
use Rattle.mp4_remux_files.specs.Fields.{item_end, item_fields}
use Rattle.mp4_remux_files.specs.declared.items.ItemPlace.{ItemPlace}
use Rattle.mp4_remux_files.proofs.FieldLists.{items_end, items_more}
use Rattle.mp4_remux_files.proofs.items.push_items.Goals as goal

pub loop-left-preserved : goal.loop-left-preserved
loop-left-preserved g c =
    let to = g.F.Shift.after c.args.shift.now in
    let fs = c.loop-left.fields.items in
    items_more to c.args.bytes.now c.args.sizes c.loop-left.left c.loop-left.begin _ _ _ _
    (omega (arith, c.loop-left-test.true))
    (c.in-Some-item_end.ensures ∙ ap (λ (i : ItemPlace). item_end c.args.sizes i) c.in-Some.ensures)
    (c.in-Ok.ensures ∙ ap (λ (i : ItemPlace). fs ++ item_fields to c.args.bytes.now c.args.sizes i) c.in-Some.ensures)
    c.loop-left.invariant

pub returns : goal.returns
returns g c =
    items_end (g.F.Shift.after c.args.shift.now) c.args.bytes.now c.args.sizes c.loop-left.left c.loop-left.begin _ _
    (omega (arith, c.loop-left-test.false)) c.loop-left.invariant
