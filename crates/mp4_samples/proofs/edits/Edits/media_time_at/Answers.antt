use Rattle.std.proofs.Common.{◌≡◌, ℕ, ◌+◌, ◌-◌, ◌<◌, ◌≤◌, ◌^◌, true, false, sym, refl, ap, subst, arith, rules, ◌∙◌}
use Rattle.std.proofs.lemmas.Bool.{ne_eqb}
use Rattle.mp4_samples.specs.Edits.{EditList, AreEdits, edit_at, begin_of, is_empty_edit, is_dwell, movie_ticks}
use Rattle.mp4_samples.specs.Edits.{media_ticks}
use Rattle.mp4_samples.proofs.EditTimes.{nothing_shown, shows_still, past_media}
use Rattle.mp4_samples.proofs.edits.Edits.media_time_at.Goals as goal

pub returns-then-is_empty_edit : goal.returns-then-is_empty_edit
returns-then-is_empty_edit c =
    let l = c.args.self.now in
    let k = c.in_ok-index.index in
    let same = ap (λ (l : EditList). is_empty_edit l.long (edit_at l k)) c.self.view_is in
    let empty : is_empty_edit l.long (edit_at l k) ≡ true = sym same ∙ sym c.if-is_empty_edit.ensures in
    nothing_shown l k c.args.ticks c.in_ok-index.ensures.covers empty

pub returns-then-entry-eq0 : goal.returns-then-entry-eq0
returns-then-entry-eq0 c =
    let l = c.args.self.now in
    let k = c.in_ok-index.index in
    let are = subst AreEdits c.self.view_is c.self.invariant in
    let same = ap (λ (l : EditList). is_empty_edit l.long (edit_at l k)) c.self.view_is in
    let shown : is_empty_edit l.long (edit_at l k) ≡ false = sym same ∙ sym c.if-is_empty_edit.ensures in
    let rate = ap (λ (l : EditList). (edit_at l k).media_rate) c.self.view_is in
    let still : is_dwell (edit_at l k) ≡ true = rw (sym rate ∙ c.if-entry-eq0.true) refl in
    let time = ap (λ (l : EditList). (edit_at l k).media_time) c.self.view_is in
    let top : (edit_at l k).media_time < 2 ^ 64 = rw (← time) (search rules) in
    let start = ap (λ (l : EditList). media_ticks l (edit_at l k).media_time) c.self.view_is in
    let is : c.ticks_of-start.result ≡ media_ticks l (edit_at l k).media_time =
    c.ticks_of-start.ensures.value ∙ start in
    (k, rw is (shows_still l k c.args.ticks are.movie c.in_ok-index.ensures.covers shown still top))

pub returns-else-passed-end : goal.returns-else-passed-end
returns-else-passed-end c =
    let l = c.args.self.now in
    let k = c.in_ok-index.index in
    let rate = ap (λ (l : EditList). (edit_at l k).media_rate) c.self.view_is in
    let plays : is_dwell (edit_at l k) ≡ false =
    ne_eqb (edit_at l k).media_rate 0 (λ zero. c.if-entry-eq0.false (rate ∙ zero)) in
    let start = ap (λ (l : EditList). media_ticks l (edit_at l k).media_time) c.self.view_is in
    let begin = ap (λ (l : EditList). movie_ticks l c.in_ok-index.begin) c.self.view_is in
    let begin' = ap (λ (n : ℕ). movie_ticks l n) c.in_ok-index.ensures.begin in
    let movie = ap (λ (l : EditList). l.movie_timescale) c.self.view_is in
    let past : media_ticks l (2 ^ 64)
    ≤ media_ticks l (edit_at l k).media_time + (c.args.ticks - movie_ticks l (begin_of l k)) =
    omega (
      arith,
      start,
      begin,
      begin',
      movie,
      c.ticks_of-start.ensures,
      c.ticks_of.ensures,
      c.from.ensures,
      c.if-passed-end.false,
    ) in
    past_media l k c.args.ticks c.in_ok-index.ensures.covers plays past
