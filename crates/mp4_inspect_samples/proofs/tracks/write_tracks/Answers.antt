use Rattle.std.proofs.Common.{◌≡◌, ◌∷◌, ◌∙◌, [], length, Some, ap, arith, refl, rules}
use Rattle.std.specs.Vec.Iter.{into_iter_items}
use Rattle.mp4_inspect_samples.proofs.TrackLists.{tracks_answered, tracks_end, tracks_next, tracks_start}
use Rattle.mp4_inspect_samples.proofs.TrafLists.{none_left}
use Rattle.mp4_inspect_samples.proofs.tracks.write_tracks.Goals as goal
use Rattle.mp4_inspect_samples.specs.Samples.{named, with_name}
use Rattle.mp4_inspect_samples.specs.declared.choice.Choice.{Choice}
use Rattle.mp4_movie.specs.Levels.{Found}
use Rattle.mp4_walk.specs.Walk.{Walk}

pub loop-info-init : goal.loop-info-init
loop-info-init g c = record {
  kept = refl;
  form = c.new-writer.ensures.form;
  so_far = λ i known limit choice ahead. (
    [],
    ahead,
    tracks_start i c.args.movie.now c.args.infos.items _ (g.W.Write.contents c.args.output.now.inner)
        c.args.faults.now.items _ c.into_iter-info-iterator.ensures.into_iter_gives.0 c.new-writer.ensures.none,
  );
  count = search rules;
}

pub loop-info-preserved : goal.loop-info-preserved
loop-info-preserved g c =
    let at = c.loop-info in
    let f : Found = record { box = c.in-Some-first_in.place.found; after = c.in-Some-first_in.place.after.now } in
    let info = c.in-Some.info in
    let rest = into_iter_items c.next.new.self in
    let steps = c.in-Some.ensures.steps in
    let is : into_iter_items at.info-iterator ≡ info ∷ rest = steps.0 in
    record {
      kept = c.in_ok-write_one.ensures.kept ∙ at.invariant.kept;
      form = c.in_ok-write_one.ensures.form ∙ at.invariant.form;
      so_far = λ i known limit choice ahead.
          let here : at.walk.bytes ≡ Some i.file = ap (λ (w : Walk). w.bytes) at.invariant.kept ∙ known in
          let before = at.invariant.so_far i known limit choice ahead in
          let form = at.invariant.form ∙ ap (λ (h : Choice). h.form) choice in
          let one = c.in_ok-write_one.ensures.writes i before.0 here limit choice form before.1 in (
            with_name before.0 (named info.position info.track_id),
            c.in_ok-write_one.ensures.met i.trafs before.0 before.1,
            tracks_next i c.args.movie.now c.args.infos.items _ rest info (g.W.Write.contents c.args.output.now.inner)
                (g.W.Write.contents at.output.inner) (g.W.Write.contents c.write_one.new.output.inner)
                c.args.faults.now.items at.faults.items c.write_one.new.faults.items one.0 before.0 at.rest.now f
                at.writer.follows c.write_one.new.writer.follows c.in-Some-first_in.ensures.first is one.1 one.2
                before.2,
          );
      count = let was = at.invariant.count in
          let gone = steps.1 in
          let short = ap length is in
          omega arith;
    }

pub returns-clause-writes : goal.returns-clause-writes
returns-clause-writes g c = λ i known limit choice ahead.
    let at = c.loop-info in
    let before = at.invariant.so_far i known limit choice ahead in
    let all = tracks_answered i c.args.movie.now c.args.infos.items _ (g.W.Write.contents c.args.output.now.inner)
    (g.W.Write.contents at.output.inner) c.args.faults.now.items at.faults.items before.0 at.rest.now at.writer.follows
    (none_left _ _ at.invariant.count c.in-None.ensures.steps.0) before.2 in
    record { told = all.0; met = before.0; writes = all.1; told_is = all.2; ahead_is = before.1 }

pub returns-in_default-clause-writes : goal.returns-in_default-clause-writes
returns-in_default-clause-writes g c = λ i known limit choice ahead.
    let at = c.loop-info in
    let before = at.invariant.so_far i known limit choice ahead in
    let all = tracks_end i c.args.movie.now c.args.infos.items _ (g.W.Write.contents c.args.output.now.inner)
    (g.W.Write.contents at.output.inner) c.args.faults.now.items at.faults.items before.0 at.rest.now at.writer.follows
    c.in_default.ensures.first before.2 in
    record { told = all.0; met = before.0; writes = all.1; told_is = all.2; ahead_is = before.1 }
