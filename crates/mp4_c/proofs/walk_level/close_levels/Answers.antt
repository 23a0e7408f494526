use Rattle.std.proofs.Common.{◌≡◌, ◌+◌, ◌-◌, ◌<◌, List, subst, arith}
use Rattle.mp4_walk.specs.Walk.{Closes}
use Rattle.mp4_walk.specs.declared.level.Level.{Level}
use Rattle.mp4_walk.proofs.Unwound.{closes_over}
use Rattle.mp4_c.specs.Levels.{level_at, levels_at}
use Rattle.mp4_c.proofs.Levels.{levels_next}
use Rattle.mp4_c.proofs.walk_level.close_levels.Goals as goal

pub close-preserved : goal.close-preserved
close-preserved c =
    let rows = c.args.levels.now in
    let more : 0 < c.close.left = c.close-test.true in
    let before = c.close.left - 1 in
    let last : c.close.left ≡ before + 1 = omega (arith, more) in
    record {
      fewer = omega (arith, c.close.invariant.fewer);
      closes = closes_over c.args.at (levels_at rows c.args.count) (level_at rows before) (levels_at rows before)
          (subst (λ (ls : List Level). Closes c.args.at (levels_at rows c.args.count) ls)
          (levels_next rows before c.close.left last) c.close.invariant.closes) c.if-levels-left.true;
    }
