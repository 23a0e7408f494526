use Rattle.std.proofs.Common.{◌+◌, ◌<◌, ◌++◌, ℕ, List, length, take, refl, ap, ◌∙◌, arith, length-drop}
use Rattle.mp4_normal.specs.Changes.{part}
use Rattle.mp4_normal.proofs.Making.{none_made, next_of, order, room, within, behind, one_more}
use Rattle.mp4_normal.proofs.make.make_all.Goals as goal

pub loop-index-init : goal.loop-index-init
loop-index-init c =
    let g = c.args.changes.now.growth in
    let B = c.args.bytes.now in
    none_made c.args.changes.now B (record { begin = 0; from = 0; done = 0 }) refl refl refl c.requires.room
    (omega (arith, length-drop g B, c.requires.room)) c.requires.before

pub make_change-made-requires : goal.make_change-made-requires
make_change-made-requires c =
    let x = c.index-change.result.now in
    let cs = c.args.changes.now.list.items in
    let lt : c.loop-index.index < length cs =
    omega (arith, c.loop-index-test.true, c.len-index-end.ensures, c.args.changes.now.list.ok) in
    let next = next_of cs c.loop-index.index x lt c.index-change.ensures in
    let so_made = c.loop-index.invariant in
    let ordered = order so_made x next in
    record {
      begin = ordered.0;
      end = ordered.1;
      within = within so_made x next;
      from = ordered.3;
      to = omega (arith, ordered.4, ap length c.deref.ensures.value);
      behind = behind so_made;
      room = room so_made x next;
    }

pub loop-index-preserved : goal.loop-index-preserved
loop-index-preserved c =
    let x = c.index-change.result.now in
    let cs = c.args.changes.now.list.items in
    let lt : c.loop-index.index < length cs =
    omega (arith, c.loop-index-test.true, c.len-index-end.ensures, c.args.changes.now.list.ok) in
    let next = next_of cs c.loop-index.index x lt c.index-change.ensures in
    let m = c.loop-index.made in
    let g = c.args.changes.now.growth in
    let bytes = c.loop-index.bytes in
    let made = c.make_change-made.ensures.made
    ∙ ap (λ (l : List ℕ). take m.done bytes ++ (part bytes (m.begin + g) (x.begin + g) ++ part l m.from x.to))
    c.deref.ensures.value in
    one_more c.loop-index.invariant x next c.make_change-made.new.bytes c.make_change-made.result
    c.make_change-made.ensures.begin c.make_change-made.ensures.from c.make_change-made.ensures.done made
    c.make_change-made.ensures.rest c.make_change-made.ensures.len
