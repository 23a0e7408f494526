use Rattle.std.proofs.Common.{◌≡◌, ◌∷◌, ◌++◌, ◌∙◌, [], List, None, Result, length, ap, append_assoc, append-nil}
use Rattle.std.proofs.Common.{arith}
use Rattle.std.proofs.Common.{rules, sym}
use Rattle.std.specs.BTreeMap.{get}
use Rattle.std.specs.Ordering.{nat_cmp}
use Rattle.std.specs.Vec.Iter.{into_iter_items}
use Rattle.mp4_inspect_samples.proofs.TimeLists.{one_answer}
use Rattle.mp4_inspect_samples.proofs.TrafLists.{none_left}
use Rattle.mp4_inspect_samples.proofs.segments.enter_answers.Goals as goal
use Rattle.mp4_inspect_samples.specs.Segments.{answer_faults, fragments_in, time_at, time_or}
use Rattle.mp4_inspect_samples.specs.Trafs.{unknown_fault}
use Rattle.mp4_inspect_samples.specs.declared.fault.TrackFault.{TrackFault}
use Rattle.mp4_inspect_samples.specs.declared.track_times.TrackTime.{TrackTime}
use Rattle.mp4_movie.specs.declared.error.BoxError.{BoxError}
use Rattle.mp4_movie.specs.declared.track_fragment.TrackFragment.{TrackFragment}

pub loop-answer-init : goal.loop-answer-init
loop-answer-init c =
    let is = c.into_iter-answer-iterator.ensures.into_iter_gives.0 in
    record {
      told = ap (λ (rs : List (Result TrackFragment BoxError)).
          c.args.faults.now.items ++ answer_faults c.args.moof rs) is;
      times = λ q.
          ap (λ (rs : List (Result TrackFragment BoxError)).
          time_at q (time_or (get nat_cmp c.args.times.now.by_track q)) (fragments_in rs)) is;
      count = search rules;
    }

pub loop-answer-preserved : goal.loop-answer-preserved
loop-answer-preserved c =
    let at = c.loop-answer in
    let r = c.in-Some.answer in
    let rest = into_iter_items c.next.new.self in
    let steps = c.in-Some.ensures.steps in
    let is : into_iter_items at.answer-iterator ≡ r ∷ rest = steps.0 in
    record {
      told = ap (λ (ts : List TrackFault). ts ++ answer_faults c.args.moof rest) c.in_ok-enter_answer.ensures.told
          ∙ append_assoc at.faults.items (unknown_fault c.args.moof None r) (answer_faults c.args.moof rest)
          ∙ ap (λ (rs : List (Result TrackFragment BoxError)). at.faults.items ++ answer_faults c.args.moof rs) (sym is)
          ∙ at.invariant.told;
      times = λ q.
          let before = time_or (get nat_cmp at.times.by_track q) in
          ap (λ (t : TrackTime). time_at q t (fragments_in rest)) (c.in_ok-enter_answer.ensures.times q)
          ∙ one_answer q before r rest
          ∙ ap (λ (rs : List (Result TrackFragment BoxError)). time_at q before (fragments_in rs)) (sym is)
          ∙ at.invariant.times q;
      count = let was = at.invariant.count in
          let gone = steps.1 in
          let short = ap length is in
          omega arith;
    }

pub returns-clause-told : goal.returns-clause-told
returns-clause-told c =
    let at = c.loop-answer in
    let is : into_iter_items at.answer-iterator ≡ [] = none_left _ _ at.invariant.count c.in-None.ensures.steps.0 in
    sym (append-nil at.faults.items)
    ∙ ap (λ (rs : List (Result TrackFragment BoxError)). at.faults.items ++ answer_faults c.args.moof rs) (sym is)
    ∙ at.invariant.told

pub returns-clause-times : goal.returns-clause-times
returns-clause-times c =
    let at = c.loop-answer in
    let is : into_iter_items at.answer-iterator ≡ [] = none_left _ _ at.invariant.count c.in-None.ensures.steps.0 in
    λ q.
    ap (λ (rs : List (Result TrackFragment BoxError)).
    time_at q (time_or (get nat_cmp at.times.by_track q)) (fragments_in rs)) (sym is)
    ∙ at.invariant.times q
