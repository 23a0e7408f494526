-- The duration of a run, from the durations that it lists.
use Rattle.std.proofs.Common.{◌≡◌, ℕ, zero, suc, ◌+◌, ◌-◌, ◌*◌, ◌≤◌, min, length, inl, inr, refl, arith}
use Rattle.std.proofs.lemmas.Bool.{cases_lt}
use Rattle.std.proofs.lemmas.List.{get_or_past}
use Rattle.mp4_samples.proofs.Through.{sum_next}
use Rattle.mp4_tables.specs.declared.trun.TrunBox.{TrunBox}
use Rattle.mp4_inspect_samples.specs.Segments.{duration_before, duration_in}

pub no_duration : (default : ℕ) (t : TrunBox) → duration_before default t 0 ≡ 0
unfolding duration_before
no_duration default t = refl

pub duration_more : (default : ℕ) (t : TrunBox) (j : ℕ)
    → duration_before default t (j + 1) ≡ duration_before default t j + duration_in default t j
unfolding duration_before
duration_more default t j =
    let next = sum_next (duration_in default t) 0 j (j + 1) refl in
    let here : 0 + j ≡ j = omega arith in
    rw here at next

-- Each sample past the listed durations has the default duration.
past : (default : ℕ) (t : TrunBox) (m k : ℕ) → length t.sample_durations ≤ m
    → duration_before default t (m + k) ≡ duration_before default t m + k * default
past default t m zero le = let same : m + 0 ≡ m = omega arith in rw same (omega arith)
past default t m (suc k) le =
    let next : m + suc k ≡ m + k + 1 = omega arith in
    let before = past default t m k le in
    let more = duration_more default t (m + k) in
    let last : duration_in default t (m + k) ≡ default =
    get_or_past t.sample_durations (m + k) default (omega (arith, le)) in
    rw next (omega (arith, before, more, last))

pub duration_of_all : (default : ℕ) (t : TrunBox) (m n : ℕ) → m ≡ min (length t.sample_durations) n
    → duration_before default t n ≡ duration_before default t m + (n - m) * default
duration_of_all default t m n is = elim (cases_lt (length t.sample_durations) n) [
  | inl lt ↦
      let all : length t.sample_durations ≤ m = omega (arith, is, lt) in
      let sum : m + (n - m) ≡ n = omega (arith, is, lt) in
      let whole = past default t m (n - m) all in
      rw sum at whole
  | inr le ↦
      let same : m ≡ n = omega (arith, is, le) in
      let none : n - m ≡ 0 = omega (arith, same) in
      rw (none, same) (omega arith)
]
