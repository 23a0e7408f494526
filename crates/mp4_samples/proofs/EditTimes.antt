-- The order of edits, and what an edit shows.
use Rattle.std.proofs.Common.{◌≡◌, ℕ, ◌+◌, ◌-◌, ◌<◌, ◌≤◌, ◌^◌, inl, inr, true, false, List, length, refl, ap}
use Rattle.std.proofs.Common.{arith, mul-le-mul_left, mul-lt-mul_of_pos_right}
use Rattle.std.proofs.Math.Seq.{take-length}
use Rattle.std.proofs.lemmas.Bool.{cases_order, cases_lt, ne_eqb}
use Rattle.std.proofs.lemmas.List.Sums.{sum_by_more, sum_by_more_le}
use Rattle.mp4_tables.specs.declared.elst_entry.ElstEntry.{ElstEntry}
use Rattle.mp4_samples.specs.Edits.{EditList, AreEdits, durations_before, begin_of, edit_in, no_edit, edit_at, is_open}
use Rattle.mp4_samples.specs.Edits.{is_empty_edit, is_dwell, movie_ticks, media_ticks, Lasts, Covers, Shows, Presents}
use Rattle.mp4_samples.proofs.Rising.{rising}

pub nothing_before : (es : List ElstEntry) → durations_before es 0 ≡ 0
unfolding durations_before
nothing_before es = refl

pub next_edit : (es : List ElstEntry) (k : ℕ) → k < length es
    → durations_before es (k + 1) ≡ durations_before es k + (edit_in es k).segment_duration
unfolding durations_before
next_edit es k lt = sum_by_more (λ (e : ElstEntry). e.segment_duration) es k no_edit lt

pub through_le : (es : List ElstEntry) (k : ℕ) → k < length es
    → durations_before es k + (edit_in es k).segment_duration ≤ durations_before es (length es)
unfolding durations_before
through_le es k lt =
    let all = sum_by_more_le (λ (e : ElstEntry). e.segment_duration) es k no_edit lt in
    rw take-length all

-- A later edit begins no sooner than an earlier one.
pub begin_le : (es : List ElstEntry) (j k : ℕ) → j ≤ k → k ≤ length es → durations_before es j ≤ durations_before es k
begin_le es j k le within =
    rising (durations_before es) (length es) (λ n lt. omega (arith, next_edit es n lt)) j k le within

-- An edit that has ended has a duration.
pub ended : (l : EditList) (k p : ℕ) → ¬ Lasts l k p → movie_ticks l (edit_at l k).segment_duration ≤ p
ended l k p past = elim (cases_lt p (movie_ticks l (edit_at l k).segment_duration)) [
  | inl lt ↦ absurd (past (λ _. lt))
  | inr le ↦ le
]

-- The next edit begins when an edit has ended.
pub next_begun : (l : EditList) (k t : ℕ) → k < length l.entries → movie_ticks l (begin_of l k) ≤ t
    → ¬ Lasts l k (t - movie_ticks l (begin_of l k)) → movie_ticks l (begin_of l (k + 1)) ≤ t
next_begun l k t within begun past =
    let next = next_edit l.entries k within in
    rw next (omega (arith, ended l k (t - movie_ticks l (begin_of l k)) past, begun))

not_last : (l : EditList) (j k : ℕ) → j < k → k < length l.entries → is_open l j ≡ false
not_last l j k lt within =
    let no = ne_eqb (j + 1) (length l.entries) (λ is. omega arith) in
    rw no refl

not_before : (l : EditList) (j k t : ℕ) → Covers l j t → Covers l k t → j < k → ⊥
not_before l j k t a b lt =
    let within = b.within in
    let lasts = a.lasts (not_last l j k lt within) in
    let next = next_edit l.entries j (omega arith) in
    let later = begin_le l.entries (j + 1) k (omega arith) (omega arith) in
    let later' : durations_before l.entries j + (edit_at l j).segment_duration ≤ durations_before l.entries k =
    omega (arith, next, later) in
    omega (arith, mul-le-mul_left l.media_timescale later', lasts, a.begun, b.begun)

-- Only one edit covers each time.
pub one_edit : (l : EditList) (j k t : ℕ) → Covers l j t → Covers l k t → j ≡ k
one_edit l j k t a b = elim (cases_order j k) [
  | inl same ↦ same
  | inr rest ↦ elim rest [
    | inl lt ↦ absurd (not_before l j k t a b lt)
    | inr lt ↦ absurd (not_before l k j t b a lt)
  ]
]

-- The tick of the media that an edit shows if it is not a dwell.
pub playing : (l : EditList) (k t x : ℕ) → is_dwell (edit_at l k) ≡ false → Shows l k t x
    → x ≡ media_ticks l (edit_at l k).media_time + (t - movie_ticks l (begin_of l k))
playing l k t x plays s = rw plays at s.media

pub playing_at : (l : EditList) (k c t : ℕ) → 0 < l.movie_timescale → is_dwell (edit_at l k) ≡ false
    → (edit_at l k).media_time ≤ c → Shows l k t (media_ticks l c)
    → t ≡ movie_ticks l (begin_of l k) + media_ticks l (c - (edit_at l k).media_time)
playing_at l k c t some plays le s =
    let shown = playing l k t (media_ticks l c) plays s in
    let parts : c ≡ c - (edit_at l k).media_time + (edit_at l k).media_time = omega arith in
    let ticks : media_ticks l c ≡ media_ticks l (c - (edit_at l k).media_time + (edit_at l k).media_time) =
    ap (λ (n : ℕ). media_ticks l n) parts in
    omega (arith, shown, ticks, s.covers.begun)

pub presents_playing : (l : EditList) (k c : ℕ) → 0 < l.movie_timescale → k < length l.entries → c < 2 ^ 64
    → is_empty_edit l.long (edit_at l k) ≡ false → is_dwell (edit_at l k) ≡ false → (edit_at l k).media_time ≤ c
    → Lasts l k (media_ticks l (c - (edit_at l k).media_time))
    → Presents l k c (movie_ticks l (begin_of l k) + media_ticks l (c - (edit_at l k).media_time))
presents_playing l k c some within top shown plays le lasts =
    let b = movie_ticks l (begin_of l k) in
    let p = media_ticks l (c - (edit_at l k).media_time) in
    let same : movie_ticks l (begin_of l k) + media_ticks l (c - (edit_at l k).media_time) - movie_ticks l
    (begin_of l k) ≡ media_ticks l (c - (edit_at l k).media_time) = omega arith in
    let parts : c ≡ c - (edit_at l k).media_time + (edit_at l k).media_time = omega arith in
    let ticks : media_ticks l c ≡ media_ticks l (c - (edit_at l k).media_time + (edit_at l k).media_time) =
    ap (λ (n : ℕ). media_ticks l n) parts in
    let sum : media_ticks l c
    ≡ media_ticks l (edit_at l k).media_time
    + (movie_ticks l (begin_of l k) + media_ticks l (c - (edit_at l k).media_time) - movie_ticks l (begin_of l k)) =
    omega (arith, same, ticks) in
    record {
      shows = record {
        covers = record { within = within; begun = omega arith; lasts = rw same lasts };
        some = shown;
        media = rw plays sum;
        exists = mul-lt-mul_of_pos_right top some;
      };
      first = λ u s.
          omega (arith, playing_at l k c u some plays le s);
    }

pub presents_no_more : (l : EditList) (k c : ℕ) → 0 < l.movie_timescale → is_dwell (edit_at l k) ≡ false
    → (edit_at l k).media_time ≤ c → ¬ Lasts l k (media_ticks l (c - (edit_at l k).media_time))
    → (t : ℕ) → ¬ Shows l k t (media_ticks l c)
presents_no_more l k c some plays le past t s =
    let at = playing_at l k c t some plays le s in
    let same : t - movie_ticks l (begin_of l k) ≡ media_ticks l (c - (edit_at l k).media_time) = omega (arith, at) in
    past (rw same at s.covers.lasts)

-- Nothing is shown at a time that an empty edit covers.
pub nothing_shown : (l : EditList) (k t : ℕ) → Covers l k t → is_empty_edit l.long (edit_at l k) ≡ true → (j x : ℕ)
    → ¬ Shows l j t x
nothing_shown l k t covers empty j x s =
    let same = one_edit l j k t s.covers covers in
    let shown : is_empty_edit l.long (edit_at l k) ≡ false = rw same at s.some in
    absurd (cc)

pub shows_still : (l : EditList) (k t : ℕ) → 0 < l.movie_timescale → Covers l k t
    → is_empty_edit l.long (edit_at l k) ≡ false
    → is_dwell (edit_at l k) ≡ true → (edit_at l k).media_time < 2 ^ 64
    → Shows l k t (media_ticks l (edit_at l k).media_time)
shows_still l k t some covers shown still top =
    let sum : media_ticks l (edit_at l k).media_time ≡ media_ticks l (edit_at l k).media_time + 0 = omega arith in
    record { covers = covers; some = shown; media = rw still sum; exists = mul-lt-mul_of_pos_right top some }

pub past_media : (l : EditList) (k t : ℕ) → Covers l k t → is_dwell (edit_at l k) ≡ false
    → media_ticks l (2 ^ 64) ≤ media_ticks l (edit_at l k).media_time + (t - movie_ticks l (begin_of l k)) → (j x : ℕ)
    → ¬ Shows l j t x
past_media l k t covers plays past j x s =
    let same = one_edit l j k t s.covers covers in
    let s' : Shows l k t x = rw same at s in
    omega (arith, playing l k t x plays s', s'.exists, past)

-- The begin and the end of an edit fit 64 bits.
pub fits_next : (l : EditList) (k : ℕ) → AreEdits l → k < length l.entries
    → begin_of l k + (edit_at l k).segment_duration < 2 ^ 64
fits_next l k are within = omega (arith, through_le l.entries k within, are.fits)
