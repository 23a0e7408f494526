-- The rows of the samples of a fragment, added one after the other.
use Rattle.std.proofs.Common.{◌≡◌, ℕ, ◌<◌, List, [], ◌∷◌, ◌++◌, length, refl, sym, subst, ◌∙◌, arith, inl, inr}
use Rattle.std.proofs.lemmas.Bool.{cases_lt}
use Rattle.std.proofs.lemmas.List.{get_or_append_left, get_or_push, length_push}
use Rattle.std.proofs.lemmas.Option.{slice_get_read, get_or_from_slice_get}
use Rattle.mp4_samples.specs.Fragments.{IsFragmentSample}
use Rattle.mp4_samples.specs.declared.fragment.Fragment.{Fragment}
use Rattle.mp4_samples.specs.declared.sample.Sample.{Sample}
use Rattle.mp4_c.specs.FragmentSamples.{IsRow}
use Rattle.mp4_c.specs.Samples.{row_of}
use Rattle.mp4_c.specs.declared.samples.SampleRow.{SampleRow}

-- After one more row is added, each row is that of its sample.
pub row_added : (f : Fragment) (own : List SampleRow) (s : Sample) → IsFragmentSample f (length own) s
    → ((k : ℕ) → k < length own → IsRow f own k) → (k : ℕ) → k < length (own ++ row_of s ∷ [])
    → IsRow f (own ++ row_of s ∷ []) k
row_added f own s is before k less =
    let row = row_of s in
    let new = own ++ row ∷ [] in
    let long = length_push own row in
    elim (cases_lt k (length own)) [
      | inl lt ↦
          (let p = before k lt in
          let old = row_of p.0 in
          let there = get_or_append_left own (row ∷ []) old k lt ∙ get_or_from_slice_get own k old old p.1.1 in
          (p.0, (p.1.0, slice_get_read new (length new) k old refl less (sym there))))
      | inr le ↦
          (let same : length own ≡ k = omega (arith, le, long, less) in
          let here = get_or_push own row row (length own) refl in
          subst (λ (j : ℕ). IsRow f new j) same
          (s, (is, slice_get_read new (length new) (length own) row refl (omega (arith, long)) (sym here))))
    ]
