-- Samples that are put into an array, one after the other.
use Rattle.std.proofs.Common.{◌≡◌, ℕ, ◌+◌, ◌<◌, List, length, Some, refl, sym, subst, ◌∙◌, arith, inl, inr}
use Rattle.std.specs.Prelude.{slice_get, slice_set}
use Rattle.std.proofs.lemmas.Bool.{cases_lt}
use Rattle.std.proofs.lemmas.List.{get_or-set_same, get_or-set_other, length-set}
use Rattle.std.proofs.lemmas.Option.{slice_get_read, get_or_from_slice_get}
use Rattle.mp4_c.specs.Samples.{row_of}
use Rattle.mp4_c.specs.declared.samples.SampleRow.{SampleRow}
use Rattle.mp4_samples.specs.Samples.{IsSample}
use Rattle.mp4_samples.specs.declared.sample.Sample.{Sample}
use Rattle.mp4_samples.specs.declared.tables.Tables.{Tables}

-- The row at k is that of sample k.
abbrev pub IsPut : Tables → List SampleRow → ℕ → Type 0
IsPut t rows k = (s : Sample) × (IsSample t k s × (slice_get rows k ≡ Some (row_of s)))

-- After sample i is put, the first i + 1 rows are those of their samples.
pub put_next : (t : Tables) (rows : List SampleRow) (i : ℕ) (s : Sample) → i < length rows → IsSample t i s
    → ((k : ℕ) → k < i → IsPut t rows k) → (k : ℕ) → k < i + 1 → IsPut t (slice_set rows i (row_of s)) k
put_next t rows i s within is before k less =
    let row = row_of s in
    let new = slice_set rows i row in
    let long : length new ≡ length rows = length-set rows i row in
    elim (cases_lt k i) [
      | inl lt ↦
          (let p = before k lt in
          let old = row_of p.0 in
          let there = get_or-set_other rows i k row old (omega (arith, lt))
          ∙ get_or_from_slice_get rows k old old p.1.1 in
          (p.0, (p.1.0, slice_get_read new (length new) k old refl (omega (arith, long, lt, within)) (sym there))))
      | inr le ↦
          (let same : i ≡ k = omega (arith, le, less) in
          let here = get_or-set_same rows i row row within in
          subst (λ (j : ℕ). IsPut t new j) same
          (s, (is, slice_get_read new (length new) i row refl (omega (arith, long, within)) (sym here))))
    ]
