use Rattle.std.proofs.Common.{◌≡◌, ◌<◌, [], fold, length, rules, subst, sym, take, List}
use Rattle.mp4_content.specs.Paths.{AreOpen, Code, entered}
use Rattle.mp4_diff.proofs.DiffSteps.{second_more}
use Rattle.mp4_diff.proofs.PairSteps.{levels_more}
use Rattle.mp4_diff.specs.Differences.{differences_of, places_of, second_at}
use Rattle.mp4_diff.specs.Pairs.{paths}
use Rattle.mp4_diff.proofs.changes.push_second.Goals as goal

pub boxes-preserved : goal.boxes-preserved
boxes-preserved c =
    let l = c.boxes in
    let boxes = c.args.boxes.now in
    let opened = fold entered [] (take l.found-index boxes) in
    let inside : l.found-index < length boxes = search rules in
    record {
      opened = subst (λ (levels : List (List Code)). AreOpen levels c.entered_path.new.paths.levels.items)
          (sym (levels_more boxes l.found-index _ inside)) (c.in_ok-path.ensures.opened opened l.invariant.opened);
      so_far = λ first are.
          let here : differences_of c.in_ok-whats.whats.items ≡ second_at (paths first) c.in_ok-path.path.items =
          rw c.deref.ensures.value at (c.in_ok-whats.ensures first are) in
          second_more boxes l.found-index _ c.in_ok-path.path.items (paths first)
          (differences_of c.in_ok-whats.whats.items) (places_of c.args.changes.now.items) (places_of l.changes.items)
          (places_of c.push_change.new.changes.items) inside (c.in_ok-path.ensures.path opened l.invariant.opened) here
          c.in_ok-push_change.ensures (l.invariant.so_far first are);
    }
