use Rattle.std.proofs.Common.{◌≡◌, ◌+◌, ◌-◌, List, ◌++◌, length, ap, ◌∙◌, arith}
use Rattle.mp4_remux.specs.declared.pieces.piece.Piece.{Piece}
use Rattle.mp4_remux.specs.Pieces.{bytes_of, spelled, lengths}
use Rattle.mp4_remux.proofs.Plans.{last_length, spelled_joined}
use Rattle.mp4_remux.proofs.pieces.plan.Plan.push.Goals as goal

pub replace_last-requires-clause-end : goal.replace_last-requires-clause-end
replace_last-requires-clause-end c =
    let ps = c.self.inside.pieces.items in
    let last : c.len-count.result - 1 + 1 ≡ length ps = omega (arith, c.len-count.ensures, c.if-count-gt0.true) in
    let whole = last_length ps (c.len-count.result - 1) c.index.result.now last c.index.ensures in
    let more = c.in-Some-joined.ensures.length in
    let sum = c.in-Some.ensures.1 in
    let before = c.length.ensures in
    let added = c.length-long.ensures in
    let same = ap lengths c.self.view_is in
    omega (arith, whole, more, sum, before, added, same)

pub returns-in-Some-joined-clause-bytes : goal.returns-in-Some-joined-clause-bytes
returns-in-Some-joined-clause-bytes c B =
    let ps = c.self.inside.pieces.items in
    let last : c.len-count.result - 1 + 1 ≡ length ps = omega (arith, c.len-count.ensures, c.if-count-gt0.true) in
    ap (spelled B) c.replace_last.ensures.pieces
    ∙ spelled_joined B ps (c.len-count.result - 1) c.index.result.now c.args.piece c.in-Some-joined.joined last
    c.index.ensures (c.in-Some-joined.ensures.bytes B)
    ∙ ap (λ (qs : List Piece). spelled B qs ++ bytes_of B c.args.piece) c.self.view_is
