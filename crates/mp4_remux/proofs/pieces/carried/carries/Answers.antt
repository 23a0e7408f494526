use Rattle.std.proofs.Common.{◌+◌, ◌==◌, drop, sym, ap, ◌∙◌, true, false, arith}
use Rattle.std.proofs.lemmas.Bool.{ne_eqb}
use Rattle.mp4_remux.specs.declared.pieces.carried.Run.{Run}
use Rattle.mp4_remux.specs.Pieces.{carried, if_left}
use Rattle.mp4_remux.proofs.PieceSteps.{said, no_size, step, all_passed}
use Rattle.mp4_remux.proofs.pieces.carried.carries.Goals as goal

pub returns-then-run-eq0 : goal.returns-then-run-eq0
returns-then-run-eq0 c =
    said c.args.pieces.now c.args.at c.args.size c.args.from true
    (sym c.loop-piece.invariant ∙ no_size (drop c.loop-piece.piece-index c.args.pieces.now) c.loop-piece.run
    c.if-run-eq0.true)

pub returns-in-None : goal.returns-in-None
returns-in-None c =
    said c.args.pieces.now c.args.at c.args.size c.args.from false
    (sym c.loop-piece.invariant
    ∙ step c.args.pieces.now c.loop-piece.piece-index c.piece-item.result c.loop-piece.run c.loop-piece-test.true
    c.piece-item.is (ne_eqb c.loop-piece.run.size 0 c.if-run-eq0.false)
    ∙ ap (if_left (λ (s : Run). carried (drop (c.loop-piece.piece-index + 1) c.args.pieces.now) s))
    (sym c.after.ensures ∙ c.in-None.is))

pub loop-piece-preserved : goal.loop-piece-preserved
loop-piece-preserved c =
    sym (ap (if_left (λ (s : Run). carried (drop (c.loop-piece.piece-index + 1) c.args.pieces.now) s))
    (sym c.after.ensures ∙ c.in-Some.is))
    ∙ sym (step c.args.pieces.now c.loop-piece.piece-index c.piece-item.result c.loop-piece.run c.loop-piece-test.true
    c.piece-item.is (ne_eqb c.loop-piece.run.size 0 c.if-run-eq0.false))
    ∙ c.loop-piece.invariant

pub returns : goal.returns
returns c =
    said c.args.pieces.now c.args.at c.args.size c.args.from (c.loop-piece.run.size == 0)
    (sym c.loop-piece.invariant
    ∙ all_passed c.args.pieces.now c.loop-piece.piece-index c.loop-piece.run (omega arith))
