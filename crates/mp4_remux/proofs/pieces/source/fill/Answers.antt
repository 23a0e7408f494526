use Rattle.std.proofs.Common.{◌≡◌, ◌<◌, List, length, ◌∙◌, ap, subst, arith}
use Rattle.std.specs.Prelude.{slice_index_or}
use Rattle.mp4_remux.specs.declared.pieces.piece.Piece.{Piece}
use Rattle.mp4_remux.proofs.Passed.{lengths_more}
use Rattle.mp4_remux.proofs.Windows.{front_more}
use Rattle.mp4_remux.proofs.pieces.source.fill.Goals as goal

pub loop-filled-preserved-then-long-skip : goal.loop-filled-preserved-then-long-skip
loop-filled-preserved-then-long-skip g c =
    let inv = c.loop-filled.invariant in
    let i = c.loop-filled.passed in
    let p = c.index-pieces-passed.result in
    let same = c.pieces-pieces.ensures in
    let lt : i < length c.args.plan.now = subst (λ (ps : List Piece). i < length ps) same c.if-passed-pieces.false in
    let is : p ≡ slice_index_or c.args.plan.now i p =
    c.index-pieces-passed.is ∙ ap (λ (ps : List Piece). slice_index_or ps i p) same in
    let sum = lengths_more c.args.plan.now i p lt is in
    let size = c.length-long.ensures in
    let less = c.if-long-skip.true in
    let place = inv.place in
    record {
      within = omega (arith, lt);
      long = inv.long;
      room = inv.room;
      place = omega (arith, sum, size, less, place);
      keeps = inv.keeps;
      front = inv.front;
    }

pub loop-filled-preserved : goal.loop-filled-preserved
loop-filled-preserved g c =
    let inv = c.loop-filled.invariant in
    let i = c.loop-filled.passed in
    let p = c.index-pieces-passed.result in
    let same = c.pieces-pieces.ensures in
    let lt : i < length c.args.plan.now = subst (λ (ps : List Piece). i < length ps) same c.if-passed-pieces.false in
    let is : p ≡ slice_index_or c.args.plan.now i p =
    c.index-pieces-passed.is ∙ ap (λ (ps : List Piece). slice_index_or ps i p) same in
    let size = c.length-long.ensures in
    let place = inv.place in
    let part = c.min-part.ensures in
    let more = c.if-long-skip.false in
    let room = c.read_middle.ensures.length in
    let test = c.loop-filled-test.true in
    record {
      within = inv.within;
      long = c.read_middle.ensures.length ∙ inv.long;
      room = omega (arith, room, part, test);
      place = omega (arith, place);
      keeps = c.read_middle.ensures.keeps ∙ inv.keeps;
      front = front_more (g.S.Source.all c.args.old.now) (g.S.Source.all c.loop-filled.old) c.args.plan.now i p
          c.args.at
          c.loop-filled.filled c.loop-filled.skip c.min-part.result c.loop-filled.buffer c.read_middle.new.buffer
          inv.keeps c.requires lt is place (omega (arith, size, part, more)) c.in-Ok.ensures.bytes inv.front;
    }
