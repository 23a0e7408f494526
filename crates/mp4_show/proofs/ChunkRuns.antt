-- The first samples of runs, computed one run after the other.
use Rattle.std.proofs.Common.{◌≡◌, ℕ, ◌+◌, ◌<◌, ◌≤◌, List, [], ◌∷◌, ◌++◌, length, map, drop, get_or, Option, Some, None}
use Rattle.std.proofs.Common.{refl, sym, ap, ◌∙◌, append_assoc}
use Rattle.std.proofs.lemmas.List.{append-nil, drop_more, drop_all}
use Rattle.mp4_tables.specs.declared.stsc_entry.StscEntry.{StscEntry}
use Rattle.mp4_tables.specs.Chunks.{next_sample, with_sample}
use Rattle.mp4_tables.proofs.Runs.{front_of, run, with_front}

front_more : (front : List StscEntry) (e : StscEntry) (rest : Option (List StscEntry))
    → with_front front (front_of e rest) ≡ with_front (front ++ e ∷ []) rest
front_more front e None = refl
front_more front e (Some rest) = ap (λ (es : List StscEntry). Some es) (sym (append_assoc front (e ∷ []) rest))

module _ {A : Type 0} (f : A → StscEntry) where
  -- a run whose first sample fits
  pub goes_on : (xs : List A) (i s k m n : ℕ) (d : A) (front : List StscEntry) (total : Option (List StscEntry))
      → i < length xs → next_sample s k m (f (get_or xs i d)).first_chunk ≡ Some n
      → with_front front (run s k m (map f (drop i xs))) ≡ total
      → with_front (front ++ with_sample (f (get_or xs i d)) n ∷ [])
      (run n (f (get_or xs i d)).first_chunk (f (get_or xs i d)).samples_per_chunk (map f (drop (i + 1) xs))) ≡ total
  unfolding run
  goes_on xs i s k m n d front total lt next so_far =
      let e = f (get_or xs i d) in
      let rest = map f (drop (i + 1) xs) in
      let now = ap (λ (ys : List A). map f ys) (drop_more xs i d lt) in
      let one : with_front front (run s k m (map f (drop i xs)))
      ≡ with_front front (front_of (with_sample e n) (run n e.first_chunk e.samples_per_chunk rest)) =
      rw (now, next) refl in
      sym (front_more front (with_sample e n) (run n e.first_chunk e.samples_per_chunk rest)) ∙ sym one ∙ so_far

  -- a run whose first sample does not fit
  pub stops : (xs : List A) (i s k m : ℕ) (d : A) (front : List StscEntry) (total : Option (List StscEntry))
      → i < length xs → next_sample s k m (f (get_or xs i d)).first_chunk ≡ None
      → with_front front (run s k m (map f (drop i xs))) ≡ total → total ≡ None
  unfolding run
  stops xs i s k m d front total lt next so_far =
      let now = ap (λ (ys : List A). map f ys) (drop_more xs i d lt) in
      let one : with_front front (run s k m (map f (drop i xs))) ≡ None = rw (now, next) refl in
      sym so_far ∙ one

  pub ends : (xs : List A) (i s k m : ℕ) (front : List StscEntry) (total : Option (List StscEntry))
      → length xs ≤ i → with_front front (run s k m (map f (drop i xs))) ≡ total → total ≡ Some front
  unfolding run
  ends xs i s k m front total le so_far =
      let one : with_front front (run s k m (map f (drop i xs))) ≡ Some front =
      rw (drop_all i xs le) (ap (λ (ys : List StscEntry). Some ys) (append-nil front)) in
      sym so_far ∙ one
