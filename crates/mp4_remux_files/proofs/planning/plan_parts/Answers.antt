use Rattle.std.proofs.Common.{rules, ◌≡◌, ◌∷◌, ◌++◌, List, length, ap, ◌∙◌, arith}
use Rattle.std.specs.Vec.Iter.{into_iter_items}
use Rattle.mp4_remux.specs.Pieces.{spelled}
use Rattle.mp4_remux.specs.Splices.{spliced, spliced_from}
use Rattle.mp4_remux.specs.declared.edits.splice.Splice.{Splice}
use Rattle.mp4_remux.proofs.Splicing.{no_piece, one_splice}
use Rattle.mp4_remux_files.proofs.planning.plan_parts.Goals as goal

pub loop-splice-init : goal.loop-splice-init
loop-splice-init c =
    let gives = c.into_iter-splice-iterator.ensures.into_iter_gives in
    record {
      planned = λ B window.
          ap (λ (ss : List Splice). spelled B c.new-plan.result ++ spliced_from B 0 ss) gives.0
          ∙ no_piece c.new-plan.result c.args.splices.items c.new-plan.ensures B;
      count = search rules;
    }

pub loop-splice-preserved : goal.loop-splice-preserved
loop-splice-preserved c =
    let at = c.loop-splice in
    let s = c.in-Some.splice in
    let rest = into_iter_items c.next.new.self in
    let steps = c.in-Some.ensures.steps in
    let is : into_iter_items at.splice-iterator ≡ s ∷ rest = steps.0 in
    record {
      planned = λ B window.
          one_splice B at.plan c.push_splice.new.plan at.at s (into_iter_items at.splice-iterator) rest
          (spliced B c.args.splices.items) is (c.in-Ok.ensures B window) (at.invariant.planned B window);
      count = let was = at.invariant.count in
          let gone = steps.1 in
          let short = ap length is in
          omega arith;
    }
