use Rattle.std.proofs.Common.{ℕ, ◌≤◌, length, sym, refl, ap, subst, arith}
use borrow.Author.Count.{below_more}
use Rattle.mp4_samples.specs.Edits.{EditList, AreEdits, edit_at, media_ticks, Shows}
use Rattle.mp4_samples.proofs.EditTimes.{nothing_before, next_edit, fits_next}
use Rattle.mp4_samples.proofs.edits.Edits.next_presentation.Goals as goal
use Rattle.mp4_samples.proofs.edits.Edits.next_presentation.Goals.{then-index-first+in_default, else-index-first}

pub loop-entry-init : goal.loop-entry-init
loop-entry-init c =
    let none = nothing_before c.args.self.now.entries in
    record { counted = refl; begin = sym none; none = λ k t le lt. absurd (omega arith) }

pub overflow_add-begin : goal.overflow_add-begin
overflow_add-begin c =
    let l = c.args.self.now in
    let i = c.loop-entry.entry-index in
    let are = subst AreEdits c.self.view_is c.self.invariant in
    let count = ap (λ (l : EditList). length l.entries) c.self.view_is in
    let duration = ap (λ (l : EditList). (edit_at l i).segment_duration) c.self.view_is in
    omega (arith, fits_next l i are (omega (arith, count)), duration, c.loop-entry.invariant.begin)

pub loop-entry-preserved : goal.loop-entry-preserved
loop-entry-preserved c =
    let l = c.args.self.now in
    let i = c.loop-entry.entry-index in
    let inv = c.loop-entry.invariant in
    let duration = ap (λ (l : EditList). (edit_at l i).segment_duration) c.self.view_is in
    let next = next_edit l.entries i (omega (arith, ap (λ (l : EditList). length l.entries) c.self.view_is)) in
    let here : (t : ℕ) → c.args.first ≤ i → ¬ Shows l i t (media_ticks l c.args.time) =
    elim c.if-index-first.branch [
      | then-index-first+in_default w ↦ (λ t le s.
          let now : Shows l c.loop-entry.index t (media_ticks l c.args.time) = rw inv.counted s in
          w.in_default.ensures t now)
      | else-index-first w ↦ (λ t le s. absurd (omega (arith, inv.counted, w.if-index-first.false)))
    ] in
    record {
      counted = omega (arith, inv.counted);
      begin = omega (arith, next, duration, inv.begin);
      none = λ k t le lt. below_more (λ (k : ℕ). c.args.first ≤ k → ¬ Shows l k t (media_ticks l c.args.time)) _
          (λ j below from. inv.none j t from below) (here t) k lt le;
    }
