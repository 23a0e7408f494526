use Rattle.std.proofs.Common.{◌≡◌, ℕ, ◌+◌, ◌-◌, ◌<◌, ◌≤◌, ◌∷◌, length, refl, sym, ap, subst, ◌∙◌, arith, inl}
use Rattle.mp4_c.specs.Levels.{levels_at}
use Rattle.mp4_c.proofs.Levels.{levels_next}
use Rattle.mp4_c.proofs.Walks.{box_next, inside_of, some_wanted}
use Rattle.mp4_c.proofs.file_walk.mp4_walk_next.Goals as goal
use Rattle.mp4_walk.proofs.Unwound.{nested_step, nested_within}
use Rattle.mp4_walk.specs.Walk.{Nested}
use Rattle.mp4_walk.specs.declared.level.Level.{Level}

pub returns : goal.returns
returns c =
    let w = c.args.walk.now in
    let s = c.step_in-step.result in
    let l : Level = c.level_at-level.result in
    let d : ℕ = w.count - 1 in
    let more : 0 < w.wanted = omega (arith, c.if-walk-eq0.false) in
    let some = some_wanted w.levels w.count w.position w.wanted c.requires.wanted more in
    let last : w.count ≡ d + 1 = omega (arith, some.0) in
    let first : levels_at w.levels w.count ≡ l ∷ levels_at w.levels d =
    levels_next w.levels d w.count last ∙ ap (λ (x : Level). x ∷ levels_at w.levels d) (sym c.level_at-level.ensures) in
    let nested = subst (Nested w.length w.position) first c.requires.nested in
    let within : l.end ≤ w.length = nested_within w.length l.end (levels_at w.levels d) nested.1 in
    let inside : w.position < l.end =
    inside_of w.levels w.count w.position l some.0 c.requires.goes_on c.level_at-level.ensures in
    let after : Nested w.length s.at (levels_at c.go_on-count.new.levels c.go_on-count.result) =
    subst (Nested w.length s.at) (sym c.go_on-count.ensures.levels)
    (nested_step w.length w.position l (levels_at w.levels d) s nested c.step_in-step.ensures.on) in
    record {
      walk = record {
        few = omega (arith, c.go_on-count.ensures.few, c.close_levels-walk.ensures.fewer);
        nested = c.close_levels-walk.ensures.closes.nested w.length after;
        goes_on = c.close_levels-walk.ensures.goes_on;
        wanted = c.wanted_at-walk.ensures;
      };
      walks = inl (
        refl,
        record {
          enough = omega (arith, c.if-bytes-walk.false);
          box = s.found;
          fields = c.of.ensures;
          size = refl;
          advances = c.step_in-step.ensures.on.0;
          first = λ B long window.
              let ends : l.end ≤ length B = omega (arith, within, long) in
              box_next B w.length w.position l (levels_at w.levels d) (levels_at w.levels w.count)
              (levels_at c.go_on-count.new.levels c.go_on-count.result)
              (levels_at c.go_on-count.new.levels c.close_levels-walk.result) s first after
              c.step_in-step.ensures.on.2 (c.step_in-step.ensures.step B window ends) ends inside
              c.go_on-count.ensures.levels c.close_levels-walk.ensures.closes;
        },
      );
    }
