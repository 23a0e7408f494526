use Rattle.std.proofs.Common.{◌≡◌, ℕ, ◌-◌, true, false, sym, refl, ap, subst, arith, rules, ◌∙◌}
use Rattle.std.proofs.lemmas.Bool.{ne_eqb}
use Rattle.mp4_samples.specs.Edits.{EditList, AreEdits, edit_at, begin_of, is_empty_edit, is_dwell, movie_ticks}
use Rattle.mp4_samples.specs.Edits.{media_ticks, Lasts}
use Rattle.mp4_samples.proofs.EditTimes.{presents_playing, presents_no_more}
use Rattle.mp4_samples.proofs.edits.Edits.presentation_in.Goals as goal

pub returns-then-lasts : goal.returns-then-lasts
returns-then-lasts c =
    let l = c.args.self.now in
    let k = c.args.index in
    let are = subst AreEdits c.self.view_is c.self.invariant in
    let same = ap (λ (l : EditList). is_empty_edit l.long (edit_at l k)) c.self.view_is in
    let shown : is_empty_edit l.long (edit_at l k) ≡ false = sym same ∙ sym c.if-is_empty_edit.ensures in
    let rate = ap (λ (l : EditList). (edit_at l k).media_rate) c.self.view_is in
    let plays : is_dwell (edit_at l k) ≡ false =
    ne_eqb (edit_at l k).media_rate 0 (λ zero. c.if-entry-eq0.false (rate ∙ zero)) in
    let time = ap (λ (l : EditList). (edit_at l k).media_time) c.self.view_is in
    let start = ap (λ (l : EditList). movie_ticks l c.args.begin) c.self.view_is in
    let start' : c.ticks_of-start.result ≡ movie_ticks l (begin_of l k) = c.ticks_of-start.ensures.value ∙ start
    ∙ ap (λ (n : ℕ). movie_ticks l n) c.requires.begin in
    let passed = ap (λ (l : EditList). media_ticks l (c.args.time - (edit_at l k).media_time)) c.self.view_is in
    let passed' : c.ticks_of-passed.result ≡ media_ticks l (c.args.time - (edit_at l k).media_time) =
    c.ticks_of-passed.ensures.value ∙ passed in
    let lasts : Lasts l k (media_ticks l (c.args.time - (edit_at l k).media_time)) =
    (λ ends. rw (← passed') (c.if-lasts.ensures.0 refl ends)) in
    rw (start', passed')
    (presents_playing l k c.args.time are.movie c.requires.within (search rules) shown plays
    (omega (arith, time, c.if-time-entry.false)) lasts)

pub returns-else-lasts : goal.returns-else-lasts
returns-else-lasts c =
    let l = c.args.self.now in
    let k = c.args.index in
    let are = subst AreEdits c.self.view_is c.self.invariant in
    let rate = ap (λ (l : EditList). (edit_at l k).media_rate) c.self.view_is in
    let plays : is_dwell (edit_at l k) ≡ false =
    ne_eqb (edit_at l k).media_rate 0 (λ zero. c.if-entry-eq0.false (rate ∙ zero)) in
    let time = ap (λ (l : EditList). (edit_at l k).media_time) c.self.view_is in
    let passed = ap (λ (l : EditList). media_ticks l (c.args.time - (edit_at l k).media_time)) c.self.view_is in
    let passed' : c.ticks_of-passed.result ≡ media_ticks l (c.args.time - (edit_at l k).media_time) =
    c.ticks_of-passed.ensures.value ∙ passed in
    let past : ¬ Lasts l k (media_ticks l (c.args.time - (edit_at l k).media_time)) = (λ p.
    let now : Lasts l k c.ticks_of-passed.result = rw passed' p in
    let clash : false ≡ true = c.if-lasts.ensures.1 now in
    absurd (cc)) in
    presents_no_more l k c.args.time are.movie plays (omega (arith, time, c.if-time-entry.false)) past
