use Rattle.std.proofs.Common.{◌≡◌, ◌<◌, List, length, ◌∙◌, ap, subst, arith}
use Rattle.std.specs.Prelude.{slice_index_or}
use Rattle.mp4_remux.specs.declared.pieces.piece.Piece.{Piece}
use Rattle.mp4_remux.proofs.FlatPlans.{part_added}
use Rattle.mp4_remux.proofs.Passed.{lengths_more}
use Rattle.mp4_remux.proofs.pieces.flat.add_range.Goals as goal

pub loop-added-preserved-then-long-skip : goal.loop-added-preserved-then-long-skip
loop-added-preserved-then-long-skip c =
    let inv = c.loop-added.invariant in
    let i = c.loop-added.passed in
    let p = c.index-pieces-passed.result in
    let same = c.pieces-pieces.ensures in
    let lt : i < length c.args.first.now = subst (λ (ps : List Piece). i < length ps) same c.if-passed-pieces.false in
    let is : p ≡ slice_index_or c.args.first.now i p =
    c.index-pieces-passed.is ∙ ap (λ (ps : List Piece). slice_index_or ps i p) same in
    let sum = lengths_more c.args.first.now i p lt is in
    let size = c.length-long.ensures in
    let less = c.if-long-skip.true in
    let place = inv.place in
    record {
      within = omega (arith, lt);
      room = inv.room;
      place = omega (arith, sum, size, less, place);
      front = inv.front;
    }

pub loop-added-preserved : goal.loop-added-preserved
loop-added-preserved c =
    let inv = c.loop-added.invariant in
    let i = c.loop-added.passed in
    let p = c.index-pieces-passed.result in
    let same = c.pieces-pieces.ensures in
    let lt : i < length c.args.first.now = subst (λ (ps : List Piece). i < length ps) same c.if-passed-pieces.false in
    let is : p ≡ slice_index_or c.args.first.now i p =
    c.index-pieces-passed.is ∙ ap (λ (ps : List Piece). slice_index_or ps i p) same in
    let size = c.length-long.ensures in
    let place = inv.place in
    let part = c.min-part.ensures in
    let test = c.loop-added-test.true in
    let some = c.if-long-skip.false in
    record {
      within = inv.within;
      room = omega (arith, part, test);
      place = omega (arith, place);
      front = λ B within.
          part_added B c.args.first.now c.args.flat.now c.loop-added.flat c.add_part.new.flat i p c.args.at
          c.loop-added.added c.loop-added.skip c.min-part.result within lt is place
          (omega (arith, size, part, some)) (inv.front B within) (c.in-Ok.ensures B);
    }
