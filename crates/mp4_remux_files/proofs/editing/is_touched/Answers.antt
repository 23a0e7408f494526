use Rattle.std.proofs.Common.{arith, subst}
use Rattle.std.specs.Prelude.{IsTrue}
use Rattle.mp4_remux.proofs.Splicing.{all_end, all_more}
use Rattle.mp4_remux.specs.declared.edits.splice.Splice.{Splice}
use Rattle.mp4_remux_files.specs.EditedFile.{is_beside}
use Rattle.mp4_remux_files.proofs.editing.is_touched.Goals as goal

pub loop-splice-preserved : goal.loop-splice-preserved
loop-splice-preserved c =
    all_more (λ (s : Splice). IsTrue (is_beside c.args.found.now s)) c.args.splices.now c.loop-splice.splice-index _
    c.loop-splice-test.true c.loop-splice.invariant
    (subst (λ (s : Splice). IsTrue (is_beside c.args.found.now s)) c.splice-item.is
    (subst IsTrue c.is_beside.ensures c.if-not-is_beside.false))

pub returns : goal.returns
returns c = λ _.
    all_end (λ (s : Splice). IsTrue (is_beside c.args.found.now s)) c.args.splices.now c.loop-splice.splice-index
    (omega (arith, c.loop-splice-test.false)) c.loop-splice.invariant
