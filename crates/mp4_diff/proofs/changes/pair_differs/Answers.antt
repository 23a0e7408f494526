use Rattle.std.proofs.Common.{◌≡◌, rules, subst}
use Rattle.std.specs.Prelude.{IfSome}
use Rattle.mp4_diff.proofs.BoxPairs.{pair_known}
use Rattle.mp4_diff.specs.Differences.{differences_of, fields, with_bytes}
use Rattle.mp4_diff.specs.Rows.{rows_of}
use Rattle.mp4_diff.proofs.changes.pair_differs.Goals as goal
use Rattle.mp4_walk.specs.Walk.{Walk}

pub returns-clause-pair : goal.returns-clause-pair
returns-clause-pair g c =
    let x = c.args.first.now in
    let y = c.args.second.now in
    let first = rows_of c.in_ok-here.here.items in
    let second = rows_of c.in_ok-there.there.items in
    let old = differences_of c.in_ok-whats.whats.items in
    let new = differences_of c.push_bytes.new.whats.items in
    let is : old ≡ fields first second = search rules in
    let one = c.args.one.now in
    let once = subst (λ (w : Walk). IfSome w.bytes (λ file. IfSome c.rows_of-2.new.walk.bytes (λ next.
    new ≡ with_bytes c.args.offsets file x next y old))) c.in_ok-here.ensures.kept c.in_ok-push_bytes.ensures.bytes in
    let more = subst (λ (w : Walk). IfSome one.bytes (λ file. IfSome w.bytes (λ next.
    new ≡ with_bytes c.args.offsets file x next y old))) c.in_ok-there.ensures.kept once in
    pair_known g.B.Shown.known g.B.Shown.named_reading g.B.BoxFields.shown c.args.offsets one.bytes
    c.args.other.now.bytes x y first second old new c.in_ok-here.ensures.rows c.in_ok-there.ensures.rows is more
