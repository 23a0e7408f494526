use Rattle.std.proofs.Common.{◌≡◌, ◌<◌, List, length, ◌∙◌, ap, arith}
use Rattle.std.specs.Prelude.{slice_index_or}
use Rattle.mp4_remux.specs.Pieces.{spelled}
use Rattle.mp4_remux.specs.declared.pieces.piece.Piece.{Piece}
use Rattle.mp4_remux.proofs.FlatPlans.{flat_more, flat_none}
use Rattle.mp4_remux.proofs.pieces.flat.flat_plan.Goals as goal

pub loop-piece-init : goal.loop-piece-init
loop-piece-init c B within = flat_none B (spelled B c.args.first.now) c.new-flat.result c.new-flat.ensures

pub loop-piece-preserved : goal.loop-piece-preserved
loop-piece-preserved c B within =
    let i = c.loop-piece.piece-index in
    let p = c.piece-item.result in
    let same = c.pieces-pieces.ensures in
    let many = ap (λ (ps : List Piece). length ps) same in
    let test = c.loop-piece-test.true in
    let lt : i < length c.args.second.now = omega (arith, many, test) in
    let is : p ≡ slice_index_or c.args.second.now i p =
    c.piece-item.is ∙ ap (λ (ps : List Piece). slice_index_or ps i p) same in
    flat_more B (spelled B c.args.first.now) c.args.second.now c.loop-piece.flat c.add_flat.new.flat i p lt is
    (c.loop-piece.invariant B within) (c.in-Ok.ensures B within)
