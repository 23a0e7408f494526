use Rattle.std.proofs.Common.{◌≡◌, ◌<◌, [], fold, length, rules, subst, sym, take, List}
use Rattle.mp4_content.specs.Paths.{AreOpen, Code, entered}
use Rattle.mp4_diff.proofs.PairSteps.{levels_more, numbers_more}
use Rattle.mp4_diff.specs.Pairs.{key_of}
use Rattle.mp4_diff.proofs.pairs.numbers_of.Goals as goal

pub boxes-preserved : goal.boxes-preserved
boxes-preserved c =
    let l = c.boxes in
    let boxes = c.args.boxes.now in
    let opened = fold entered [] (take l.index boxes) in
    let inside : l.index < length boxes = search rules in
    let keyed : c.in_ok-key.key.items ≡ key_of c.in_ok-path.path.items = search rules in
    record {
      opened = subst (λ (levels : List (List Code)). AreOpen levels c.entered_path.new.paths.levels.items)
          (sym (levels_more boxes l.index _ inside)) (c.in_ok-path.ensures.opened opened l.invariant.opened);
      so_far = numbers_more (λ key. key.items) boxes l.index _ l.by_path.entries c.insert.new.self.entries
          c.in_ok-key.key c.in_ok-path.path.items inside (c.in_ok-path.ensures.path opened l.invariant.opened) keyed
          c.in_ok-insert.ensures.entries l.invariant.so_far;
    }
