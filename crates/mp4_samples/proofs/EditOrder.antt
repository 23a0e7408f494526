-- The laws of edit lists.
use Rattle.std.proofs.Common.{◌≡◌, ℕ, zero, suc, ◌+◌, ◌-◌, ◌<◌, ◌≤◌, inl, inr, true, false, length, Some, None, refl}
use Rattle.std.proofs.Common.{sym, ap, subst, ◌∙◌, arith, rules}
use Rattle.std.proofs.Math.Nat.{le_of_mul-le-mul_right}
use Rattle.std.proofs.lemmas.Bool.{cases_lt}
use Rattle.mp4_samples.specs.declared.edit_fault.EditFault.TheVariants.{MovieTimescale, MediaTimescale, MediaTime, Rate}
use Rattle.mp4_samples.specs.declared.edit_fault.EditFault.TheVariants.{Durations}
use Rattle.mp4_samples.specs.Edits.{EditList, edit_list, edit_at, begin_of, is_open, is_dwell, movie_ticks, media_ticks}
use Rattle.mp4_samples.specs.Edits.{Covers, Shows, Presents}
use Rattle.mp4_samples.specs.EditLaws.{EditsLeaveNoGap, MediaTimeIsUnique, PresentedIsShown, ShownIsPresented}
use Rattle.mp4_samples.specs.EditLaws.{NoEditListIsIdentity, EditFaultRefutes}
use Rattle.mp4_samples.proofs.EditTimes.{nothing_before, next_edit, through_le, one_edit, playing, playing_at}
use Rattle.mp4_samples.proofs.EditTimes.{presents_playing}

covered : (l : EditList) (n t : ℕ) → n ≤ length l.entries → t < movie_ticks l (begin_of l n) → (k : ℕ) × Covers l k t
covered l zero t within below =
    let none = nothing_before l.entries in
    let below' = rw none at below in
    absurd (omega (arith, below'))
covered l (suc n) t within below = elim (cases_lt t (movie_ticks l (begin_of l n))) [
  | inl lt ↦ covered l n t (omega arith) lt
  | inr begun ↦
      let next = next_edit l.entries n (omega arith) in
      let more : n + 1 ≡ suc n = omega arith in
      let next' = rw more at next in
      let below' = rw next' at below in
      (n, record { within = omega arith; begun = begun; lasts = λ ends. omega (arith, below', begun) })
]

pub no_gap : EditsLeaveNoGap
no_gap l t below = covered l (length l.entries) t (omega arith) below

pub one_time : MediaTimeIsUnique
one_time l j k t x y a b =
    let same = one_edit l j k t a.covers b.covers in
    let a' : Shows l k t x = rw same at a in
    a'.media ∙ sym b.media

pub presented_is_shown : PresentedIsShown
presented_is_shown l k c t (Some x) p m =
    let same = one_time l m.0 k t x (media_ticks l c) m.1 p.shows in
    ap (λ (n : ℕ). Some n) same
presented_is_shown l k c t None p m = absurd (m k (media_ticks l c) p.shows)

from_media : (l : EditList) (k c t : ℕ) → 0 < l.movie_timescale → is_dwell (edit_at l k) ≡ false
    → Shows l k t (media_ticks l c) → (edit_at l k).media_time ≤ c
from_media l k c t some plays s =
    let shown = playing l k t (media_ticks l c) plays s in
    let le : media_ticks l (edit_at l k).media_time ≤ media_ticks l c = omega (arith, shown) in
    le_of_mul-le-mul_right le some

pub shown_is_presented : ShownIsPresented
shown_is_presented l k c t are plays s =
    let le = from_media l k c t are.movie plays s in
    record {
      shows = s;
      first = λ u s'.
          omega (arith, playing_at l k c t are.movie plays le s, playing_at l k c u are.movie plays le s');
    }

pub identity : NoEditListIsIdentity
identity movie media c t some top =
    let l = edit_list None movie media in
    let none = nothing_before l.entries in
    let start : movie_ticks l (begin_of l 0) ≡ 0 = rw none (omega arith) in
    let less : c - 0 ≡ c = omega arith in
    let all : media_ticks l (c - 0) ≡ media_ticks l c = ap (λ (n : ℕ). media_ticks l n) less in
    let clash : (is_open l 0 ≡ false → ⊥) = (λ ends. let same : true ≡ false = ends in absurd (cc)) in
    let within : 0 < length l.entries = first_of (omega arith, search rules) in
    let p : Presents l 0 c (movie_ticks l (begin_of l 0) + media_ticks l (c - 0)) =
    presents_playing l 0 c some within top refl refl (omega arith) (λ ends. absurd (clash ends)) in (
      λ q.
          let at : t ≡ movie_ticks l (begin_of l 0) + media_ticks l (c - 0) =
          playing_at l 0 c t some refl (omega arith) q.shows in
          omega (arith, at, start, all),
      λ is.
          let same : movie_ticks l (begin_of l 0) + media_ticks l (c - 0) ≡ t = omega (arith, start, all, is) in
          subst (λ (n : ℕ). Presents l 0 c n) same p,
    )

pub fault_refutes : EditFaultRefutes
fault_refutes l MovieTimescale f are =
    let some = are.movie in
    omega (arith, f)
fault_refutes l MediaTimescale f are =
    let some = are.media in
    omega (arith, f)
fault_refutes l (MediaTime k time) f are =
    let clash : true ≡ false = sym (are.times k f.0.within) ∙ f.0.fails in
    absurd (cc)
fault_refutes l (Rate k rate fraction) f are =
    let clash : true ≡ false = sym (are.rates k f.0.within) ∙ f.0.fails in
    absurd (cc)
fault_refutes l (Durations k) f are =
    omega (arith, through_le l.entries k f.0, next_edit l.entries k f.0, f.1, are.fits)
