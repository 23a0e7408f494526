use Rattle.std.proofs.Common.{◌≡◌, ◌∷◌, [], ◌++◌, List, Result, length, sym, ap, ◌∙◌, append_assoc, arith, subst}
use Rattle.std.proofs.lemmas.Result.{err_from_is_err_and}
use Rattle.std.specs.Vec.Iter.{into_iter_items}
use Rattle.mp4_c.specs.FragmentSamples.{AppendsOwn, answers_of}
use Rattle.mp4_c.proofs.Owns.{answers_more, appends_more, one_moof, stops_after}
use Rattle.mp4_c.proofs.fragment_samples.own_fragments.Goals as goal
use Rattle.mp4_movie.specs.declared.error.BoxError.{BoxError}
use Rattle.mp4_movie.specs.declared.moof.MoofFragments.{MoofFragments}
use Rattle.mp4_movie.specs.declared.track_fragment.TrackFragment.{TrackFragment}

pub loop-moof-preserved : goal.loop-moof-preserved
loop-moof-preserved c =
    let at = c.loop-moof in
    let m = c.in-Some.moof in
    let rest = into_iter_items c.next.new.self in
    let steps = c.in-Some.ensures.steps in
    let is : into_iter_items at.moof-iterator ≡ m ∷ rest = steps.0 in
    let answers : answers_of (at.yielded ++ m ∷ []) ≡ answers_of at.yielded ++ m.fragments.items =
    answers_more at.yielded (m ∷ [])
    ∙ ap (λ (rs : List (Result TrackFragment BoxError)). answers_of at.yielded ++ rs) (one_moof m) in
    record {
      taken = subst (λ (rs : List (Result TrackFragment BoxError)).
          AppendsOwn c.args.track_id rs [] c.take_all.new.own.items) (sym answers)
          (appends_more c.args.track_id (answers_of at.yielded) m.fragments.items [] at.own.items
          c.take_all.new.own.items at.invariant.taken c.in_ok-take_all.ensures.own);
      left = at.invariant.left ∙ ap (λ (ms : List MoofFragments). at.yielded ++ ms) is
          ∙ sym (append_assoc at.yielded (m ∷ []) rest);
      count = let was = at.invariant.count in
          let gone = steps.1 in
          let short = ap length is in
          omega arith;
    }

pub returns-in_err-take_all-clause-stops : goal.returns-in_err-take_all-clause-stops
returns-in_err-take_all-clause-stops c =
    let at = c.loop-moof in
    let m = c.in-Some.moof in
    let rest = into_iter_items c.next.new.self in
    let is : into_iter_items at.moof-iterator ≡ m ∷ rest = c.in-Some.ensures.steps.0 in
    let all : answers_of c.args.moofs.items ≡ (answers_of at.yielded ++ m.fragments.items) ++ answers_of rest =
    ap (λ (ms : List MoofFragments). answers_of ms) at.invariant.left ∙ answers_more at.yielded (into_iter_items
    at.moof-iterator)
    ∙ ap (λ (ms : List MoofFragments). answers_of at.yielded ++ answers_of ms) is
    ∙ sym (append_assoc (answers_of at.yielded) m.fragments.items (answers_of rest)) in
    let p = err_from_is_err_and c.from_residual.result c.from_residual.ensures.1 in
    rw (p.1, p.2) (stops_after c.args.track_id (answers_of at.yielded) m.fragments.items (answers_of rest)
    (answers_of c.args.moofs.items) [] at.own.items c.in_err-take_all.field-0.0 at.invariant.taken
    c.in_err-take_all.ensures.stops all)
