-- The bytes before a sample, from the sum over the blocks before it.
use Rattle.std.proofs.Common.{◌≡◌, ℕ, ◌+◌, ◌-◌, ◌*◌, ◌/◌, ◌<◌, ◌≤◌, ◌^◌, inl, inr, length, sym, subst, arith}
use Rattle.std.proofs.lemmas.Bool.{cases_lt}
use Rattle.mp4_tables.specs.declared.stsz.StszBox.{StszBox}
use Rattle.mp4_samples.specs.declared.tables.Tables.{Tables}
use Rattle.mp4_samples.specs.Sizes.{bytes_of}
use Rattle.mp4_samples.specs.Samples.{AreConsistent, offsets_of, sample_count}
use Rattle.mp4_samples.proofs.Bytes.{two_parts, bytes_within, bytes_zero, through_zero}

pub by_block : (z : StszBox) (k : ℕ)
    → bytes_of z 0 k ≡ bytes_of z 0 (k / 64 * 64) + bytes_of z (k / 64 * 64) (k - k / 64 * 64)
by_block z k = two_parts z (k / 64 * 64) k (omega arith)

pub before_fits : (z : StszBox) (k : ℕ) → k ≤ z.sample_count → bytes_of z 0 z.sample_count < 2 ^ 64
    → bytes_of z 0 k < 2 ^ 64
before_fits z k le fits = omega (arith, bytes_within z 0 k z.sample_count (omega arith), fits)

-- The bytes of all samples of tables that agree fit 64 bits.
pub all_fit : (t : Tables) → AreConsistent t → bytes_of t.stsz.now 0 (sample_count t) < 2 ^ 64
all_fit t c = elim (cases_lt 0 (length (offsets_of t.chunk_offsets))) [
  | inl lt ↦
      omega (arith, c.within 0 0 lt)
  | inr le ↦
      let none : length (offsets_of t.chunk_offsets) ≡ 0 = omega (arith, le) in
      let held = rw none at c.placed in
      let nothing = through_zero t.stsc.now.entries in
      let empty : sample_count t ≡ 0 = omega (arith, held, nothing) in
      let small : bytes_of t.stsz.now 0 0 < 2 ^ 64 = omega (arith, bytes_zero t.stsz.now 0) in
      subst (λ (n : ℕ). bytes_of t.stsz.now 0 n < 2 ^ 64) (sym empty) small
]

-- The sum with one more block.
pub more_blocks : (z : StszBox) (b : ℕ)
    → bytes_of z 0 ((b + 1) * 64) ≡ bytes_of z 0 (b * 64) + bytes_of z (b * 64) ((b + 1) * 64 - b * 64)
more_blocks z b = two_parts z (b * 64) ((b + 1) * 64) (omega arith)

pub block_fits : (z : StszBox) (b : ℕ) → (b + 1) * 64 ≤ z.sample_count → bytes_of z 0 z.sample_count < 2 ^ 64
    → bytes_of z 0 (b * 64) + bytes_of z (b * 64) ((b + 1) * 64 - b * 64) < 2 ^ 64
block_fits z b le fits = omega (arith, more_blocks z b, before_fits z ((b + 1) * 64) le fits)
