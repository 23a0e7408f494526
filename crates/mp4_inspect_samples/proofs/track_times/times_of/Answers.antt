use Rattle.std.proofs.Common.{◌≡◌, ℕ, ◌∷◌, ◌∙◌, length, Some, ap, arith, refl, rules}
use Rattle.std.specs.BTreeMap.{get}
use Rattle.std.specs.Ordering.{nat_cmp}
use Rattle.std.specs.Vec.Iter.{into_iter_items}
use Rattle.mp4_inspect_samples.proofs.Outcomes.{if_is, some_at}
use Rattle.mp4_inspect_samples.proofs.TimeLists.{times_answered, times_end, times_next, times_start}
use Rattle.mp4_inspect_samples.proofs.TrafLists.{none_left}
use Rattle.mp4_inspect_samples.proofs.track_times.times_of.Goals as goal
use Rattle.mp4_movie.specs.Levels.{Found}
use Rattle.mp4_walk.specs.Walk.{Walk}

pub loop-info-init : goal.loop-info-init
loop-info-init g c = record {
  kept = refl;
  so_far = if_is c.args.walk.now.bytes (λ file known. λ are.
      times_start file c.args.movie.now (λ (q : ℕ). get nat_cmp c.new-times.result.by_track q) c.args.infos.items _
      c.new-times.ensures c.into_iter-info-iterator.ensures.into_iter_gives.0 are);
  count = search rules;
}

pub loop-info-preserved : goal.loop-info-preserved
loop-info-preserved g c =
    let at = c.loop-info in
    let f : Found = record { box = c.in-Some-first_in.place.found; after = c.in-Some-first_in.place.after.now } in
    let rest = into_iter_items c.next.new.self in
    let steps = c.in-Some.ensures.steps in
    let is : into_iter_items at.info-iterator ≡ c.in-Some.info ∷ rest = steps.0 in
    record {
      kept = c.in_ok-enter_track.ensures.kept ∙ at.invariant.kept;
      so_far = if_is c.args.walk.now.bytes (λ file known. λ are.
          let here : at.walk.bytes ≡ Some file = ap (λ (w : Walk). w.bytes) at.invariant.kept ∙ known in
          times_next file c.args.movie.now at.rest.now (λ (q : ℕ). get nat_cmp at.times.by_track q)
          (λ (q : ℕ). get nat_cmp c.enter_track.new.times.by_track q) _ rest c.in-Some.info f
          c.in-Some-first_in.ensures.first is
          (some_at at.walk.bytes file _ here c.in_ok-enter_track.ensures.value)
          (some_at c.args.walk.now.bytes file _ known at.invariant.so_far are));
      count = let was = at.invariant.count in
          let gone = steps.1 in
          let short = ap length is in
          omega arith;
    }

pub returns-clause-value : goal.returns-clause-value
returns-clause-value g c =
    let at = c.loop-info in
    if_is c.args.walk.now.bytes (λ file known. λ are.
    times_answered file c.args.movie.now at.rest.now (λ (q : ℕ). get nat_cmp at.times.by_track q) _
    (none_left _ _ at.invariant.count c.in-None.ensures.steps.0)
    (some_at c.args.walk.now.bytes file _ known at.invariant.so_far are))

pub returns-in_default-clause-value : goal.returns-in_default-clause-value
returns-in_default-clause-value g c =
    let at = c.loop-info in
    if_is c.args.walk.now.bytes (λ file known. λ are.
    times_end file c.args.movie.now at.rest.now (λ (q : ℕ). get nat_cmp at.times.by_track q) _
    c.in_default.ensures.first
    (some_at c.args.walk.now.bytes file _ known at.invariant.so_far are))
