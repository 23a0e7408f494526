use Rattle.std.proofs.Common.{arith, ◌∙◌}
use Rattle.mp4_remux_files.proofs.Boxes.{all_steady, more_steady}
use Rattle.mp4_remux_files.proofs.place.check_boxes.Goals as goal

pub loop-found-preserved : goal.loop-found-preserved
loop-found-preserved g c = record {
  walk = c.check_box.ensures.walk ∙ c.loop-found.invariant.walk;
  steady = more_steady c.args.shift c.args.boxes.now c.loop-found.found-index _ c.loop-found-test.true
      c.loop-found.invariant.steady c.in-Ok.ensures.steady;
}

pub returns-clause-steady : goal.returns-clause-steady
returns-clause-steady g c =
    all_steady c.args.shift c.args.boxes.now c.loop-found.found-index (omega arith) c.loop-found.invariant.steady
