use Rattle.std.proofs.Common.{◌≡◌, ◌∙◌, ap, sym, drop, false, Some}
use Rattle.mp4_check.specs.Indexes.{is_start}
use Rattle.mp4_check.specs.declared.fault.What.{What}
use Rattle.mp4_check.proofs.IndexSteps.{wrong_now}
use Rattle.mp4_check.proofs.indexes.first_wrong.Goals as goal

pub returns-then-not-is_start : goal.returns-then-not-is_start
returns-then-not-is_start c = λ boxes length are.
    let l = c.loop-entry in
    let none : is_start boxes length l.position ≡ false =
    sym (c.is_start.ensures boxes length are) ∙ c.if-not-is_start.true in
    ap (λ (w : What). Some w) c.wrong_at.ensures
    ∙ sym (l.invariant boxes length are
    ∙ wrong_now boxes length l.position l.before (drop l.entry-index c.args.entries.now) none)
