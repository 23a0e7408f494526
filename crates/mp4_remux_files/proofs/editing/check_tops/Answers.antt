use Rattle.std.proofs.Common.{ap, arith, subst, ◌==◌, ◌≡◌, ℕ}
use Rattle.std.specs.Prelude.{IsTrue}
use Rattle.mp4_remux.proofs.Splicing.{all_end, all_more}
use Rattle.mp4_remux.specs.Splices.{is_top}
use Rattle.mp4_remux.specs.declared.edits.splice.Splice.{Splice}
use Rattle.mp4_remux_files.proofs.editing.check_tops.Goals as goal

pub loop-splice-preserved : goal.loop-splice-preserved
loop-splice-preserved c =
    let zero : c.splice-item.result.depth ≡ 0 = omega (arith, c.if-splice-gt0.false) in
    all_more (λ (s : Splice). IsTrue (is_top s)) c.args.splices.now c.loop-splice.splice-index _
    c.loop-splice-test.true c.loop-splice.invariant
    (subst (λ (s : Splice). IsTrue (is_top s)) c.splice-item.is (ap (λ (n : ℕ). n == 0) zero))

pub returns : goal.returns
returns c =
    all_end (λ (s : Splice). IsTrue (is_top s)) c.args.splices.now c.loop-splice.splice-index
    (omega (arith, c.loop-splice-test.false)) c.loop-splice.invariant
