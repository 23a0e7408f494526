-- The bytes of a run, from the sizes that it lists.
use Rattle.std.proofs.Common.{◌≡◌, ℕ, zero, suc, ◌+◌, ◌-◌, ◌*◌, ◌≤◌, min, length, inl, inr, arith}
use Rattle.std.proofs.lemmas.Bool.{cases_lt}
use Rattle.std.proofs.lemmas.List.{get_or_past}
use Rattle.mp4_tables.specs.declared.trun.TrunBox.{TrunBox}
use Rattle.mp4_samples.specs.declared.fragment.Fragment.{Fragment}
use Rattle.mp4_samples.specs.Fragments.{bytes_before, default_size, size_in}
use Rattle.mp4_samples.proofs.Fragments.{bytes_more}

-- Each sample past the listed sizes has the default size.
past : (f : Fragment) (t : TrunBox) (m k : ℕ) → length t.sample_sizes ≤ m
    → bytes_before f t (m + k) ≡ bytes_before f t m + k * default_size f
past f t m zero le = let same : m + 0 ≡ m = omega arith in rw same (omega arith)
past f t m (suc k) le =
    let next : m + suc k ≡ m + k + 1 = omega arith in
    let before = past f t m k le in
    let more = bytes_more f t (m + k) in
    let last : size_in f t (m + k) ≡ default_size f =
    get_or_past t.sample_sizes (m + k) (default_size f) (omega (arith, le)) in
    rw next (omega (arith, before, more, last))

pub bytes_of_all : (f : Fragment) (t : TrunBox) (m n : ℕ) → m ≡ min (length t.sample_sizes) n
    → bytes_before f t n ≡ bytes_before f t m + (n - m) * default_size f
bytes_of_all f t m n is = elim (cases_lt (length t.sample_sizes) n) [
  | inl lt ↦
      let all : length t.sample_sizes ≤ m = omega (arith, is, lt) in
      let sum : m + (n - m) ≡ n = omega (arith, is, lt) in
      let whole = past f t m (n - m) all in
      rw sum at whole
  | inr le ↦
      let same : m ≡ n = omega (arith, is, le) in
      let none : n - m ≡ 0 = omega (arith, same) in
      rw (none, same) (omega arith)
]
