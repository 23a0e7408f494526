use Rattle.std.proofs.Common.{◌≡◌, ◌<◌, ◌++◌, ◌∷◌, [], fold, length, rules, subst, sym, take, List}
use Rattle.mp4_content.specs.Paths.{AreOpen, Code, entered}
use Rattle.mp4_diff.proofs.PairSteps.{levels_more, partners_more}
use Rattle.mp4_diff.specs.Pairs.{partner_in, paths}
use Rattle.mp4_diff.proofs.pairs.partners_of.Goals as goal

pub boxes-preserved : goal.boxes-preserved
boxes-preserved c =
    let l = c.boxes in
    let boxes = c.args.boxes.now in
    let opened = fold entered [] (take l.found-index boxes) in
    let inside : l.found-index < length boxes = search rules in
    let pushed : c.push.new.self.items ≡ l.partners.items ++ c.in_ok-number_at.field-0 ∷ [] = search rules in
    record {
      opened = subst (λ (levels : List (List Code)). AreOpen levels c.entered_path.new.paths.levels.items)
          (sym (levels_more boxes l.found-index _ inside)) (c.in_ok-path.ensures.opened opened l.invariant.opened);
      so_far = λ others are.
          let found : c.in_ok-number_at.field-0 ≡ partner_in (paths others) c.in_ok-path.path.items =
          rw c.deref.ensures.value at (c.in_ok-number_at.ensures others are) in
          partners_more boxes l.found-index _ c.in_ok-path.path.items (paths others) c.in_ok-number_at.field-0
          l.partners.items c.push.new.self.items inside (c.in_ok-path.ensures.path opened l.invariant.opened) found
          pushed (l.invariant.so_far others are);
    }
