use Rattle.std.proofs.Common.{arith, refl, sym, ◌∙◌}
use Rattle.std.proofs.lemmas.List.{drop_more}
use Rattle.mp4_remux.proofs.PathSearch.{continues, nowhere, starts}
use Rattle.mp4_remux.proofs.edits.finding.box_by.Goals as goal

pub loop-part-init : goal.loop-part-init
loop-part-init c = record { deep = refl; same = starts c.args.parts.now c.args.boxes.now }

pub loop-part-preserved : goal.loop-part-preserved
loop-part-preserved c = record {
  deep = omega (arith, c.loop-part.invariant.deep);
  same =
      sym (continues c.loop-part.last c.loop-part.depth _ _ _ c.loop-part.rest.now c.spot_in.result
      (drop_more c.args.parts.now c.loop-part.part-index _ c.loop-part-test.true) c.spot_in.ensures
      c.in-Some.spot c.in-Some.is)
      ∙ c.loop-part.invariant.same;
}

pub returns-in-None : goal.returns-in-None
returns-in-None c =
    sym (nowhere c.loop-part.last c.loop-part.depth _ _ _ c.loop-part.rest.now c.spot_in.result
    (drop_more c.args.parts.now c.loop-part.part-index _ c.loop-part-test.true) c.spot_in.ensures
    c.in-None.is)
    ∙ c.loop-part.invariant.same
