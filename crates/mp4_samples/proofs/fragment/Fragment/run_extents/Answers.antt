use Rattle.std.proofs.Common.{◌<◌, ◌^◌, arith, rules}
use Rattle.std.proofs.lemmas.Int.{ints}
use Rattle.mp4_samples.specs.RunExtents.{extent_at}
use Rattle.mp4_samples.proofs.Fragments.{no_runs_end}
use Rattle.mp4_samples.proofs.Pushed.{listed_push}
use Rattle.mp4_samples.proofs.fragment.Fragment.run_extents.Goals as goal

pub runs-init : goal.runs-init
runs-init c =
    let none = no_runs_end c.args.self.now in
    let small : c.base_of.result < 2 ^ 64 = search rules in
    record {
      at = record {
        within = omega arith;
        end = omega (arith, ints, none, small, c.from.ensures, c.base_of.ensures);
        low = omega (arith, ints, small, c.from.ensures);
        high = omega (arith, ints, small, c.from.ensures);
      };
      long = omega (arith, c.in_ok-extents.ensures.len);
      room = omega (arith, c.in_ok-extents.ensures.exact);
      items = c.in_ok-extents.ensures.items;
    }

pub runs-preserved : goal.runs-preserved
runs-preserved c =
    let l = c.runs in
    let inv = l.invariant in
    let next = c.with_run-reached.ensures.run in
    let pushed = c.push_reserved.ensures in
    record {
      at = c.with_run-reached.ensures.at;
      long = omega (arith, pushed.len, inv.long, next);
      room = omega (arith, pushed.capacity, inv.room);
      items = listed_push (extent_at c.args.self.now) 0 l.reached.run c.with_run-reached.result.run l.reached.run _
          l.extents.items c.extent_after.result pushed.items inv.items c.extent_after.ensures (omega arith) next;
    }
