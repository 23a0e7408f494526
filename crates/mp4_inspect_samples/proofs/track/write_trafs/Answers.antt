use Rattle.std.proofs.Common.{◌≡◌, ◌∷◌, ◌∙◌, length, ap, arith, refl, rules}
use Rattle.std.specs.Vec.Iter.{into_iter_items}
use Rattle.mp4_inspect_samples.proofs.TrackLists.{rows_end, rows_next, rows_start}
use Rattle.mp4_inspect_samples.proofs.TrafLists.{none_left}
use Rattle.mp4_inspect_samples.proofs.track.write_trafs.Goals as goal
use Rattle.mp4_inspect_samples.specs.Row.{labels_of}

pub loop-traf-init : goal.loop-traf-init
loop-traf-init g c = record {
  form = refl;
  so_far = rows_start c.args.limit c.args.writer.now.form (labels_of c.args.rule.now) c.args.trafs.items _ c.args.first
      c.args.writer.now.follows (g.W.Write.contents c.args.output.now.inner)
      c.into_iter-traf-iterator.ensures.into_iter_gives.0;
  count = search rules;
}

pub loop-traf-preserved : goal.loop-traf-preserved
loop-traf-preserved g c =
    let at = c.loop-traf in
    let rest = into_iter_items c.next.new.self in
    let steps = c.in-Some.ensures.steps in
    let is : into_iter_items at.traf-iterator ≡ c.in-Some.traf ∷ rest = steps.0 in
    record {
      form = c.write_traf.ensures.form ∙ at.invariant.form;
      so_far = rows_next c.args.limit c.args.writer.now.form at.writer.form (labels_of c.args.rule.now)
          c.args.trafs.items _ rest
          c.in-Some.traf c.args.first at.reached c.in_ok-next.next c.args.writer.now.follows at.writer.follows
          c.write_traf.new.writer.follows (g.W.Write.contents c.args.output.now.inner)
          (g.W.Write.contents at.output.inner) (g.W.Write.contents c.write_traf.new.output.inner) is
          at.invariant.form c.in_ok-next.ensures.writes at.invariant.so_far;
      count = let was = at.invariant.count in
          let gone = steps.1 in
          let short = ap length is in
          omega arith;
    }

pub returns-clause-writes : goal.returns-clause-writes
returns-clause-writes g c =
    let at = c.loop-traf in
    rows_end c.args.limit c.args.writer.now.form (labels_of c.args.rule.now) c.args.trafs.items _ c.args.first
    at.reached
    c.args.writer.now.follows at.writer.follows (g.W.Write.contents c.args.output.now.inner)
    (g.W.Write.contents at.output.inner) (none_left _ _ at.invariant.count c.in-None.ensures.steps.0)
    at.invariant.so_far
