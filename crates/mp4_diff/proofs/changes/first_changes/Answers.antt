use Rattle.std.proofs.Common.{◌≡◌, ◌<◌, ◌≤◌, ◌∙◌, [], None, ap, fold, get_or, length, rules, subst, sym, take}
use Rattle.std.proofs.Common.{List, min}
use Rattle.mp4_content.specs.Paths.{AreOpen, Code, entered, parts_of}
use Rattle.mp4_diff.proofs.DiffSteps.{Here, led_all, led_more}
use Rattle.mp4_diff.proofs.PairSteps.{levels_more}
use Rattle.mp4_diff.specs.Differences.{differences_of, places_of}
use Rattle.mp4_diff.proofs.changes.first_changes.Goals as goal
use Rattle.mp4_walk.specs.declared.tree_box.TreeBox.{TreeBox}

pub boxes-preserved : goal.boxes-preserved
boxes-preserved g c =
    let l = c.boxes in
    let one = c.args.one.now in
    let other = c.args.other.now in
    let boxes = one.boxes.items in
    let opened = fold entered [] (take l.index boxes) in
    let inside : l.index < length boxes = search rules in
    let x = c.index.result.now in
    let is : x ≡ get_or boxes l.index x = rw l.invariant.kept_first at c.index.ensures in
    let here = differences_of c.in_ok-whats.whats.items in
    let path : c.in_ok-path.path.items ≡ parts_of (entered opened x) =
    rw c.in_ok-path.ensures.ok at (c.entered_path.ensures.path opened l.invariant.opened) in
    let after : AreOpen (entered opened x) c.entered_path.new.paths.levels.items =
    rw c.in_ok-path.ensures.ok at (c.entered_path.ensures.opened opened l.invariant.opened) in
    let differs : Here g.B.Shown.known g.B.Shown.named_reading g.B.BoxFields.shown c.args.offsets boxes
    other.boxes.items other.numbers c.args.partners.now one.walk.bytes other.walk.bytes c.in_ok-path.path.items x
    (get_or c.args.partners.now l.index None) here =
    rw l.invariant.kept_first at (rw l.invariant.kept_second at c.in_ok-whats.ensures.differs) in
    record {
      kept_first = search rules;
      kept_second = search rules;
      opened = subst (λ (levels : List (List Code)). AreOpen levels c.entered_path.new.paths.levels.items)
          (ap (entered opened) is ∙ sym (levels_more boxes l.index x inside)) after;
      so_far = led_more g.B.Shown.known g.B.Shown.named_reading g.B.BoxFields.shown c.args.offsets boxes
          other.boxes.items other.numbers c.args.partners.now one.walk.bytes other.walk.bytes l.index
          (places_of l.changes.items) (places_of c.push_change.new.changes.items) x None c.in_ok-path.path.items here
          inside (path ∙ ap (λ (y : TreeBox). parts_of (entered opened y)) is)
          (subst (λ (y : TreeBox). Here g.B.Shown.known g.B.Shown.named_reading g.B.BoxFields.shown c.args.offsets
          boxes other.boxes.items other.numbers c.args.partners.now one.walk.bytes other.walk.bytes
          c.in_ok-path.path.items y (get_or c.args.partners.now l.index None) here) is differs)
          (search rules) l.invariant.so_far;
    }

pub returns-clause-boxes : goal.returns-clause-boxes
returns-clause-boxes g c =
    let l = c.boxes in
    let one = c.args.one.now in
    let other = c.args.other.now in
    let ends : min (length one.boxes.items) (length c.args.partners.now) ≤ l.index = search rules in
    led_all g.B.Shown.known g.B.Shown.named_reading g.B.BoxFields.shown c.args.offsets one.boxes.items
    other.boxes.items other.numbers c.args.partners.now one.walk.bytes other.walk.bytes l.index
    (places_of l.changes.items) ends l.invariant.so_far
