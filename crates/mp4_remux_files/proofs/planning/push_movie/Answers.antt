use Rattle.std.proofs.Common.{◌+◌, arith}
use Rattle.mp4_remux_files.proofs.Plans.{all_parts, no_part, part_pushed}
use Rattle.mp4_remux_files.proofs.planning.push_movie.Goals as goal

pub loop-at-init : goal.loop-at-init
loop-at-init c = record {
  within = omega arith;
  parts = no_part c.args.begin c.args.movie.now c.args.made.now c.args.plan.now;
}

pub loop-at-preserved : goal.loop-at-preserved
loop-at-preserved c =
    let at = c.loop-at.at in
    let inv = c.loop-at.invariant in
    let part = c.min.ensures in
    record {
      within = let within = inv.within in
          omega (arith, within, part);
      parts = part_pushed c.args.begin at (at + c.min.result) c.args.movie.now c.args.made.now c.args.plan.now
          c.loop-at.plan c.push_part.new.plan (omega arith) inv.parts c.in-Ok.ensures;
    }

pub returns : goal.returns
returns c =
    all_parts c.args.begin c.loop-at.at c.args.movie.now c.args.made.now c.args.plan.now c.loop-at.plan
    (omega (arith, c.loop-at-test.false)) c.loop-at.invariant.parts
