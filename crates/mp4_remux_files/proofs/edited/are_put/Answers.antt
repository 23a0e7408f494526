use Rattle.std.proofs.Common.{arith, get_or, subst}
use Rattle.mp4_remux.specs.declared.edits.splice.Splice.{Splice}
use Rattle.mp4_remux_files.proofs.Puts.{pairs_end, pairs_more}
use Rattle.mp4_remux_files.specs.EditedMovie.{IsPut}
use Rattle.mp4_remux_files.proofs.edited.are_put.Goals as goal

pub loop-index-preserved : goal.loop-index-preserved
loop-index-preserved c =
    let t = get_or c.args.spans.now c.loop-index.index (record { begin = 0; end = 0 }) in
    pairs_more (IsPut c.args.new.now c.args.boxes.now c.args.were.now c.args.are.now) c.args.splices.now
    c.args.spans.now c.loop-index.index _ _ (omega (arith, c.loop-index-test.true))
    (omega (arith, c.loop-index-test.true, c.if-splices-spans.false)) c.loop-index.invariant
    (subst (λ (s : Splice). IsPut c.args.new.now c.args.boxes.now c.args.were.now c.args.are.now s t)
    c.index-splices-index.is (c.is_put.ensures c.if-not-is_put.false))

pub returns : goal.returns
returns c = λ _.
    pairs_end (IsPut c.args.new.now c.args.boxes.now c.args.were.now c.args.are.now) c.args.splices.now
    c.args.spans.now c.loop-index.index (omega (arith, c.loop-index-test.false))
    (omega (arith, c.loop-index-test.false, c.if-splices-spans.false)) c.loop-index.invariant
