use Rattle.std.proofs.Common.{◌≡◌, ℕ, ◌-◌, ◌*◌, ◌<◌, true, false, length, sym, refl, ap, subst, arith, ◌∙◌}
use borrow.Author.Count.{below_more}
use Rattle.mp4_samples.specs.Edits.{EditList, AreEdits, edit_at, begin_of, movie_ticks, Lasts, Covers}
use Rattle.mp4_samples.proofs.EditTimes.{nothing_before, next_edit, next_begun, fits_next}
use Rattle.mp4_samples.proofs.edits.Edits.found_at.Goals as goal

pub loop-entry-init : goal.loop-entry-init
loop-entry-init c =
    let none = nothing_before c.args.self.now.entries in
    record { counted = refl; begin = sym none; begun = rw none (omega arith); none = λ k lt. absurd (omega arith) }

pub overflow_add-begin : goal.overflow_add-begin
overflow_add-begin c =
    let l = c.args.self.now in
    let i = c.loop-entry.entry-index in
    let are = subst AreEdits c.self.view_is c.self.invariant in
    let count = ap (λ (l : EditList). length l.entries) c.self.view_is in
    let duration = ap (λ (l : EditList). (edit_at l i).segment_duration) c.self.view_is in
    omega (arith, fits_next l i are (omega (arith, count)), duration, c.loop-entry.invariant.begin)

pub loop-entry-preserved : goal.loop-entry-preserved
loop-entry-preserved c =
    let l = c.args.self.now in
    let i = c.loop-entry.entry-index in
    let inv = c.loop-entry.invariant in
    let count = ap (λ (l : EditList). length l.entries) c.self.view_is in
    let duration = ap (λ (l : EditList). (edit_at l i).segment_duration) c.self.view_is in
    let within : i < length l.entries = omega (arith, count) in
    let next = next_edit l.entries i within in
    let scale = ap (λ (l : EditList). c.loop-entry.begin * l.media_timescale) c.self.view_is in
    let start : c.ticks_of.result ≡ movie_ticks l (begin_of l i) = c.ticks_of.ensures.value ∙ scale
    ∙ ap (λ (n : ℕ). movie_ticks l n) inv.begin in
    let past : ¬ Lasts l i (c.args.ticks - movie_ticks l (begin_of l i)) = (λ p.
    let now : Lasts l c.loop-entry.index (c.args.ticks - c.ticks_of.result) = rw (inv.counted, start) p in
    let clash : false ≡ true = c.if-lasts.ensures.1 now in
    absurd (cc)) in
    record {
      counted = omega (arith, inv.counted);
      begin = omega (arith, next, duration, inv.begin);
      begun = next_begun l i c.args.ticks within inv.begun past;
      none = below_more _ _ inv.none (λ (s : Covers l i c.args.ticks). past s.lasts);
    }
