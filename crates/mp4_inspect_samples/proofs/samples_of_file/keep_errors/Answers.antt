use Rattle.std.proofs.Common.{◌≡◌, ◌∷◌, ◌++◌, ◌∙◌, [], List, length, map, ap, append_assoc, append-nil, arith, rules}
use Rattle.std.proofs.Common.{sym}
use Rattle.std.specs.Vec.Iter.{into_iter_items}
use Rattle.mp4_inspect_samples.proofs.TrafLists.{none_left}
use Rattle.mp4_inspect_samples.proofs.samples_of_file.keep_errors.Goals as goal
use Rattle.mp4_inspect_samples.specs.Samples.{box_fault}
use Rattle.mp4_inspect_samples.specs.declared.fault.TrackFault.{TrackFault}
use Rattle.mp4_movie.specs.declared.error.BoxError.{BoxError}

pub loop-error-init : goal.loop-error-init
loop-error-init c = record {
  told = ap (λ (es : List BoxError). c.args.faults.now.items ++ map box_fault es)
      c.into_iter-error-iterator.ensures.into_iter_gives.0;
  count = search rules;
}

pub loop-error-preserved : goal.loop-error-preserved
loop-error-preserved c =
    let at = c.loop-error in
    let e = c.in-Some.error in
    let rest = into_iter_items c.next.new.self in
    let steps = c.in-Some.ensures.steps in
    let is : into_iter_items at.error-iterator ≡ e ∷ rest = steps.0 in
    record {
      told = ap (λ (ts : List TrackFault). ts ++ map box_fault rest) c.in_ok-keep.ensures.items
          ∙ append_assoc at.faults.items (box_fault e ∷ []) (map box_fault rest)
          ∙ ap (λ (es : List BoxError). at.faults.items ++ map box_fault es) (sym is) ∙ at.invariant.told;
      count = let was = at.invariant.count in
          let gone = steps.1 in
          let short = ap length is in
          omega arith;
    }

pub returns : goal.returns
returns c =
    let at = c.loop-error in
    let is : into_iter_items at.error-iterator ≡ [] = none_left _ _ at.invariant.count c.in-None.ensures.steps.0 in
    sym (append-nil at.faults.items)
    ∙ ap (λ (es : List BoxError). at.faults.items ++ map box_fault es) (sym is) ∙ at.invariant.told
