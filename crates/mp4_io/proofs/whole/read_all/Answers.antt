use Rattle.std.proofs.Common.{◌≡◌, rules}
use Rattle.mp4_io.proofs.Filled.{filled_more, filled_all}
use Rattle.mp4_io.proofs.whole.read_all.Goals as goal

pub returns-in-Some-eq0-clause-bytes : goal.returns-in-Some-eq0-clause-bytes
returns-in-Some-eq0-clause-bytes g c =
    let pulled = c.in-Some-eq0.ensures in
    let none : c.in-Some-eq0.field-0 ≡ 0 = search rules in
    let end = pulled.bytes.1 none in (
      rw c.truncate.ensures.items
          (filled_all _ _ _ _ _ _ _ _ _ none c.make_room.ensures.front pulled.front c.loop.invariant.front
          pulled.bytes.0 end),
      end,
    )

pub loop-preserved : goal.loop-preserved
loop-preserved g c =
    let pulled = c.in-Some.ensures in
    record {
      within = pulled.bound;
      front = filled_more _ _ _ _ _ _ _ _ c.make_room.ensures.front pulled.front c.loop.invariant.front pulled.bytes.0;
      mark = search rules;
    }
