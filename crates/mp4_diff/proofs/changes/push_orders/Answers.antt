use Rattle.std.proofs.Common.{◌<◌, ◌≤◌, ◌++◌, ◌∙◌, [], append-nil, fold, length, min, rules, subst, sym, take, ap}
use Rattle.std.proofs.Common.{List, None}
use Rattle.mp4_content.specs.Paths.{AreOpen, Code, entered}
use Rattle.mp4_diff.proofs.DiffSteps.{orders_end, orders_more}
use Rattle.mp4_diff.proofs.PairSteps.{levels_more}
use Rattle.mp4_diff.specs.Differences.{Place, differences_of, places_of}
use Rattle.mp4_diff.proofs.changes.push_orders.Goals as goal

pub boxes-preserved : goal.boxes-preserved
boxes-preserved c =
    let l = c.boxes in
    let first = c.args.first.now in
    let partners = c.args.partners.now in
    let opened = fold entered [] (take l.index first) in
    let inside : l.index < length first = search rules in
    let within : l.index < length partners = search rules in
    record {
      opened = subst (λ (levels : List (List Code)). AreOpen levels c.entered_path.new.paths.levels.items)
          (sym (levels_more first l.index _ inside)) (c.in_ok-path.ensures.opened opened l.invariant.opened);
      so_far = orders_more first partners c.args.second.now l.index _ None c.in_ok-path.path.items
          (differences_of c.in_ok-whats.whats.items) (places_of l.changes.items) _ _ inside within
          (c.in_ok-path.ensures.path opened l.invariant.opened) c.in_ok-whats.ensures (search rules)
          l.invariant.so_far;
    }

pub returns : goal.returns
returns c =
    let l = c.boxes in
    let first = c.args.first.now in
    let partners = c.args.partners.now in
    let ends : min (length first) (length partners) ≤ l.index = search rules in
    sym (append-nil (places_of l.changes.items))
    ∙ ap (λ (xs : List Place). places_of l.changes.items ++ xs)
    (sym (orders_end (fold entered [] (take l.index first)) first partners c.args.second.now l.index ends))
    ∙ l.invariant.so_far
