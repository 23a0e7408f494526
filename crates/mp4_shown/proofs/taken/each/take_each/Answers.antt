use Rattle.std.proofs.Common.{length, ap, arith}
use Rattle.std.proofs.lemmas.Result.{err_from_is_err_and}
use Rattle.json.specs.Value.{items_view}
use Rattle.mp4_shown.specs.TakenRuns.{each_taken}
use Rattle.mp4_shown.proofs.EachSteps.{entry_taken, none_in, none_left, popped, refused_at}
use Rattle.mp4_shown.proofs.taken.each.take_each.Goals as goal

pub returns-in_err-entry : goal.returns-in_err-entry
returns-in_err-entry g c =
    let taken = g.T.TakeItem.taken c.args.by.now in
    let name = c.args.name.now in
    let whole = each_taken taken name 0 (items_view c.args.items.items) in
    let p = err_from_is_err_and c.from_residual.result c.from_residual.ensures.1 in
    rw (p.1, p.2)
    (refused_at taken name c.in_err-entry.field-0.0 c.loop-index.index c.loop-index.entries.items _ _ whole
    (popped taken name c.loop-index.index c.loop-index.entries.items _ _ _ whole c.in-Some.ensures.items
    c.loop-index.invariant.told) c.in_err-entry.ensures)

pub loop-index-preserved : goal.loop-index-preserved
loop-index-preserved g c =
    let taken = g.T.TakeItem.taken c.args.by.now in
    let name = c.args.name.now in
    let whole = each_taken taken name 0 (items_view c.args.items.items) in
    record {
      told = rw c.in_ok-push.ensures.items
          (entry_taken taken name c.loop-index.index c.loop-index.entries.items _ _ whole c.in_ok-entry.entry
          (popped taken name c.loop-index.index c.loop-index.entries.items _ _ _ whole c.in-Some.ensures.items
          c.loop-index.invariant.told) c.in_ok-entry.ensures);
      counted = omega (arith, ap length c.in-Some.ensures.items, c.loop-index.invariant.counted);
    }

pub returns : goal.returns
returns g c =
    let taken = g.T.TakeItem.taken c.args.by.now in
    let name = c.args.name.now in
    let whole = each_taken taken name 0 (items_view c.args.items.items) in
    none_left taken name c.loop-index.index c.loop-index.entries.items (items_view c.loop-index.rest.items) whole
    (none_in c.loop-index.rest.items (omega (arith, c.loop-index.invariant.counted))) c.loop-index.invariant.told
