-- The bytes of consecutive samples.
use Rattle.std.proofs.Common.{◌≡◌, ℕ, zero, suc, ◌+◌, ◌-◌, ◌*◌, ◌≤◌, List, get_or, refl, arith}
use Rattle.std.proofs.lemmas.Bool.{ne_eqb}
use Rattle.mp4_tables.specs.declared.stsz.StszBox.{StszBox}
use Rattle.mp4_tables.specs.declared.stsc_entry.StscEntry.{StscEntry}
use Rattle.mp4_samples.specs.Chunks.{samples_through}
use Rattle.mp4_samples.specs.Sizes.{size_of, bytes_of}
use Rattle.mp4_samples.proofs.Through.{sum_next}

pub through_zero : (es : List StscEntry) → samples_through es 0 ≡ 0
unfolding samples_through
through_zero es = refl

pub bytes_zero : (z : StszBox) (k : ℕ) → bytes_of z k 0 ≡ 0
unfolding bytes_of
bytes_zero z k = refl

pub bytes_more : (z : StszBox) (a n m : ℕ) → m ≡ n + 1 → bytes_of z a m ≡ bytes_of z a n + size_of z (a + n)
unfolding bytes_of
bytes_more z a n m is = sum_next (size_of z) a n m is

pub bytes_next : (z : StszBox) (first k : ℕ) → first ≤ k
    → bytes_of z first (k + 1 - first) ≡ bytes_of z first (k - first) + size_of z k
bytes_next z first k le =
    let here : first + (k - first) ≡ k = omega arith in
    rw here at (bytes_more z first (k - first) (k + 1 - first) (omega arith))

-- The bytes of samples and of those after them.
pub bytes_split : (z : StszBox) (a n m : ℕ) → bytes_of z a (n + m) ≡ bytes_of z a n + bytes_of z (a + n) m
bytes_split z a n zero =
    let none = bytes_zero z (a + n) in
    let same : n + zero ≡ n = omega arith in
    rw same (omega arith)
bytes_split z a n (suc m) =
    let rest = bytes_split z a n m in
    let all = bytes_more z a (n + m) (n + suc m) (omega arith) in
    let part = bytes_more z (a + n) m (suc m) (omega arith) in
    let place : a + (n + m) ≡ a + n + m = omega arith in
    let all' : bytes_of z a (n + suc m) ≡ bytes_of z a (n + m) + size_of z (a + n + m) = rw place at all in
    omega (arith, rest, all', part)

pub two_parts : (z : StszBox) (a b : ℕ) → a ≤ b → bytes_of z 0 b ≡ bytes_of z 0 a + bytes_of z a (b - a)
two_parts z a b le =
    let whole : a + (b - a) ≡ b = omega arith in
    let here : 0 + a ≡ a = omega arith in
    rw (whole, here) at (bytes_split z 0 a (b - a))

pub bytes_within : (z : StszBox) (first m n : ℕ) → first + m ≤ n → bytes_of z first m ≤ bytes_of z 0 n
bytes_within z first m n le =
    let width : first + m - first ≡ m = omega arith in
    let one = rw width at (two_parts z first (first + m) (omega arith)) in
    omega (arith, one, two_parts z (first + m) n le)

pub listed_at : (z : StszBox) (k : ℕ) → z.sample_size ≡ 0 → size_of z k ≡ get_or z.sample_sizes k 0
listed_at z k none = rw none refl

pub bytes_alike_from : (z : StszBox) (k n : ℕ) → (z.sample_size ≡ 0 → ⊥) → bytes_of z k n ≡ n * z.sample_size
bytes_alike_from z k zero some = omega (arith, bytes_zero z k)
bytes_alike_from z k (suc n) some =
    let rest = bytes_alike_from z k n some in
    let differ = ne_eqb z.sample_size 0 some in
    let size : size_of z (k + n) ≡ z.sample_size = rw differ refl in
    omega (arith, rest, bytes_more z k n (suc n) (omega arith), size)
