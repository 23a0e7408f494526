use Rattle.std.proofs.Common.{◌≡◌, ◌∷◌, ◌∙◌, length, Some, ap, arith, refl, rules}
use Rattle.std.specs.Vec.Iter.{into_iter_items}
use Rattle.mp4_inspect_samples.proofs.Outcomes.{if_is, some_at}
use Rattle.mp4_inspect_samples.proofs.TrafLists.{none_left, trafs_answered, trafs_end, trafs_next, trafs_start}
use Rattle.mp4_inspect_samples.proofs.fragments.enter_moof.Goals as goal
use Rattle.mp4_movie.specs.Levels.{Found}
use Rattle.mp4_walk.specs.Walk.{Walk}

pub loop-answer-init : goal.loop-answer-init
loop-answer-init g c = record {
  kept = refl;
  so_far = if_is c.args.walk.now.bytes (λ file known.
      trafs_start file c.args.moof c.args.boxes.now c.args.answers.items _ c.args.fragments.now c.args.faults.now.items
      c.into_iter-answer-iterator.ensures.into_iter_gives.0);
  count = search rules;
}

pub loop-answer-preserved : goal.loop-answer-preserved
loop-answer-preserved g c =
    let at = c.loop-answer in
    let f : Found = record { box = c.in-Some-first_in.place.found; after = c.in-Some-first_in.place.after.now } in
    let rest = into_iter_items c.next.new.self in
    let steps = c.in-Some.ensures.steps in
    let is : into_iter_items at.answer-iterator ≡ c.in-Some.answer ∷ rest = steps.0 in
    record {
      kept = c.enter_traf.ensures.kept ∙ at.invariant.kept;
      so_far = if_is c.args.walk.now.bytes (λ file known.
          let here : at.walk.bytes ≡ Some file = ap (λ (w : Walk). w.bytes) at.invariant.kept ∙ known in
          trafs_next file c.args.moof c.args.boxes.now at.rest.now c.args.answers.items _ rest c.in-Some.answer f
          c.args.fragments.now at.fragments c.enter_traf.new.fragments c.args.faults.now.items at.faults.items
          c.enter_traf.new.faults.items c.in-Some-first_in.ensures.first is
          (some_at at.walk.bytes file _ here c.in_ok-enter_traf.ensures.value)
          (some_at c.args.walk.now.bytes file _ known at.invariant.so_far));
      count = let was = at.invariant.count in
          let gone = steps.1 in
          let short = ap length is in
          omega arith;
    }

pub returns-clause-value : goal.returns-clause-value
returns-clause-value g c =
    let at = c.loop-answer in
    if_is c.args.walk.now.bytes (λ file known.
    trafs_answered file c.args.moof c.args.boxes.now at.rest.now c.args.answers.items _ c.args.fragments.now
    at.fragments c.args.faults.now.items at.faults.items
    (none_left _ _ at.invariant.count c.in-None.ensures.steps.0)
    (some_at c.args.walk.now.bytes file _ known at.invariant.so_far))

pub returns-in_default-clause-value : goal.returns-in_default-clause-value
returns-in_default-clause-value g c =
    let at = c.loop-answer in
    if_is c.args.walk.now.bytes (λ file known.
    trafs_end file c.args.moof c.args.boxes.now at.rest.now c.args.answers.items _ c.args.fragments.now at.fragments
    c.args.faults.now.items at.faults.items c.in_default.ensures.first
    (some_at c.args.walk.now.bytes file _ known at.invariant.so_far))
