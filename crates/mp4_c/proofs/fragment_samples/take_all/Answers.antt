use Rattle.std.proofs.Common.{◌≡◌, ◌∷◌, [], ◌++◌, List, Result, length, sym, ap, ◌∙◌, append_assoc, arith}
use Rattle.std.specs.Vec.Iter.{into_iter_items}
use Rattle.std.proofs.lemmas.Result.{err_from_is_err_and}
use Rattle.mp4_c.proofs.Owns.{appends_more, stops_after}
use Rattle.mp4_c.proofs.fragment_samples.take_all.Goals as goal
use Rattle.mp4_movie.specs.declared.error.BoxError.{BoxError}
use Rattle.mp4_movie.specs.declared.track_fragment.TrackFragment.{TrackFragment}

pub loop-answer-preserved : goal.loop-answer-preserved
loop-answer-preserved c =
    let at = c.loop-answer in
    let x = c.in-Some.answer in
    let steps = c.in-Some.ensures.steps in
    let is : into_iter_items at.answer-iterator ≡ x ∷ into_iter_items c.next.new.self = steps.0 in
    record {
      taken = appends_more c.args.track_id at.yielded (x ∷ []) c.args.own.now.items at.own.items c.take.new.own.items
          at.invariant.taken c.in_ok-take.ensures.own;
      left = at.invariant.left ∙ ap (λ (rs : List (Result TrackFragment BoxError)). at.yielded ++ rs) is
          ∙ sym (append_assoc at.yielded (x ∷ []) (into_iter_items c.next.new.self));
      count = let was = at.invariant.count in
          let gone = steps.1 in
          let short = ap length is in
          omega arith;
    }

pub returns-in_err-take-clause-stops : goal.returns-in_err-take-clause-stops
returns-in_err-take-clause-stops c =
    let at = c.loop-answer in
    let x = c.in-Some.answer in
    let rest = into_iter_items c.next.new.self in
    let is : into_iter_items at.answer-iterator ≡ x ∷ rest = c.in-Some.ensures.steps.0 in
    let all : c.args.answers.items ≡ (at.yielded ++ x ∷ []) ++ rest = at.invariant.left
    ∙ ap (λ (rs : List (Result TrackFragment BoxError)). at.yielded ++ rs) is
    ∙ sym (append_assoc at.yielded (x ∷ []) rest) in
    let p = err_from_is_err_and c.from_residual.result c.from_residual.ensures.1 in
    rw (p.1, p.2) (stops_after c.args.track_id at.yielded (x ∷ []) rest c.args.answers.items c.args.own.now.items
    at.own.items c.in_err-take.field-0.0 at.invariant.taken c.in_err-take.ensures.stops all)
