use Rattle.std.proofs.Common.{◌≡◌, ◌++◌, rules}
use Rattle.mp4_diff.proofs.BoxPairs.{all_known}
use Rattle.mp4_diff.specs.Differences.{only_second_in, orders_with, places_of}
use Rattle.mp4_diff.specs.Pairs.{partners_of, paths}
use Rattle.mp4_diff.proofs.changes.differences.Goals as goal

pub returns : goal.returns
returns g c =
    let one = c.in_ok-one.one in
    let other = c.in_ok-other.other in
    let boxes = one.boxes.items in
    let others = other.boxes.items in
    let partners = c.in_ok-partners.partners.items in
    let found = places_of c.in_ok-changes.changes.items in
    let more = places_of c.push_second.new.changes.items in
    let whole = places_of c.push_orders.new.changes.items in
    let partnered = rw c.in_ok-partners.ensures.ok at (c.partners_of.ensures others c.in_ok-other.ensures.numbers) in
    let paired : partners ≡ partners_of (paths boxes) (paths others) = search rules in
    let seconds = c.push_second.ensures boxes in
    let second : more ≡ found ++ only_second_in (paths boxes) (paths others) = search rules in
    let ordered : whole ≡ more ++ orders_with boxes partners others = search rules in
    all_known g.B.Shown.known g.B.Shown.named_reading g.B.BoxFields.shown c.args.offsets
    (g.S.Source.all c.args.first) (g.T.Source.all c.args.second) boxes others other.numbers partners found more whole
    c.in_ok-one.ensures.boxes c.in_ok-other.ensures.boxes c.in_ok-other.ensures.numbers paired (search rules) second
    ordered
