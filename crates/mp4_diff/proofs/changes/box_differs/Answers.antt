use Rattle.std.proofs.Common.{◌≡◌, List, ℕ, None, Some, rules}
use Rattle.std.specs.Prelude.{IfOk}
use Rattle.std.specs.declared.option.Option.{Option}
use Rattle.mp4_diff.proofs.BoxPairs.{alone_known, partner_known}
use Rattle.mp4_diff.specs.Differences.{BoxDiffers, differences_of, partner_box}
use Rattle.mp4_diff.proofs.changes.box_differs.Goals as goal
use Rattle.mp4_walk.specs.FileBoxes.{boxes_of}
use Rattle.mp4_walk.specs.declared.tree_box.TreeBox.{TreeBox}

pub returns-in-Some-clause-differs : goal.returns-in-Some-clause-differs
returns-in-Some-clause-differs g c =
    let placed = c.args.placed.now in
    let other = c.args.other.now in
    let is : Some c.in-Some.partner ≡ partner_box placed.partner other.boxes.items = search rules in
    partner_known c.args.one.now.bytes other.walk.bytes
    (λ (file next : List ℕ) (o : Option TreeBox). IfOk c.pair_differs.result (λ whats.
    BoxDiffers g.B.Shown.known g.B.Shown.named_reading g.B.BoxFields.shown c.args.offsets file next placed.path.items
    placed.found o (differences_of whats.items)))
    placed.partner other.boxes.items other.numbers (Some c.in-Some.partner) is c.pair_differs.ensures.pair

pub returns-in-None-clause-differs : goal.returns-in-None-clause-differs
returns-in-None-clause-differs g c =
    let placed = c.args.placed.now in
    let other = c.args.other.now in
    let is : None ≡ partner_box placed.partner other.boxes.items = search rules in
    alone_known c.args.one.now.bytes other.walk.bytes
    (λ (file next : List ℕ) (o : Option TreeBox). IfOk c.first_only.result (λ whats.
    BoxDiffers g.B.Shown.known g.B.Shown.named_reading g.B.BoxFields.shown c.args.offsets file next placed.path.items
    placed.found o (differences_of whats.items)))
    placed.partner other.boxes.items other.numbers None is
    (λ file next numbered.
    let here = c.first_only.ensures (boxes_of next) numbered in
    search rules)
