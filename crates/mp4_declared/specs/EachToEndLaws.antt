-- The laws of entries up to the end of a box follow from those of an entry.
use Rattle.std.proofs.Common.{◌≡◌, ℕ, zero, suc, ◌+◌, ◌-◌, ◌<◌, ◌≤◌, ◌&&◌, Bool, true, not, leb, ltb, List, []}
use Rattle.std.proofs.Common.{◌∷◌, ◌++◌, length, Ok, refl, sym, ap, subst, ◌∙◌, arith}
use Rattle.std.specs.List.{flat_map, sum_by, AllByRecursion}
use Rattle.std.proofs.lemmas.Bool.{le-leb, le-ltb, lt-ltb, ltb-true}
use Rattle.std.proofs.lemmas.List.Elements.{All-from_recursion, recursion_from_All}
use Rattle.std.proofs.lemmas.List.Sums.{sum_by-cons}
use Rattle.mp4_frame.specs.Reading.{Reading, ◌>>=◌, done, check}
use Rattle.mp4_frame.proofs.Checks.{check_ok, is_value, past_check}
use Rattle.mp4_frame.proofs.Decided.{outcome_bind}
use Rattle.mp4_frame.proofs.Tables.{value_first}
use Rattle.mp4_declared.specs.declared.context.Context.{Context}
use Rattle.mp4_declared.specs.BitsLaws.{and_first}
use Rattle.mp4_declared.specs.EachLaws.{none_follow, one_more, all_are, length_each, first_back, next_at, next_bytes}
use Rattle.mp4_declared.specs.EachToEnd.{reads_inside, until_end, each_to_end_shape}
use Rattle.mp4_declared.specs.Shape.{Shape}
use Rattle.mp4_declared.specs.ShapeLaws.{IsShape}

module _ {X : Type 0} (s : Shape X) (is : IsShape s) where
  abbrev inside : Context → ℕ → ℕ → X → Bool
  inside c at end x = ltb at (at + s.size c x) && leb (at + s.size c x) end

  -- an entry with at least one byte that ends in the box
  inside_back : (c : Context) (bytes : List ℕ) (at end : ℕ) (v : X) → (s.reads c bytes at end).outcome ≡ Ok v
      → 0 < s.size c v → at + s.size c v ≤ end → (reads_inside s c bytes end at).outcome ≡ Ok v
  unfolding reads_inside
  inside_back c bytes at end v read some ends =
      let first : ltb at (at + s.size c v) ≡ true = lt-ltb at (at + s.size c v) (omega arith) in
      let second : leb (at + s.size c v) end ≡ true = le-leb (at + s.size c v) end ends in
      let both : inside c at end v ≡ true = rw (first, second) refl in
      outcome_bind (s.reads c bytes at end) (λ x. check (inside c at end x) >>= λ _. done x) v (Ok v) read
      (past_check (inside c at end v) (λ _. done v) both)

  inside_read : (c : Context) (bytes : List ℕ) (at end : ℕ) (v : X) → (reads_inside s c bytes end at).outcome ≡ Ok v
      → ((s.reads c bytes at end).outcome ≡ Ok v) × (0 < s.size c v)
  unfolding reads_inside
  inside_read c bytes at end v e =
      let p = value_first (s.reads c bytes at end) (λ x. check (inside c at end x) >>= λ _. done x) v e in
      let q = check_ok (inside c at end p.0) (λ _. done p.0) v p.2 in
      let first = ltb-true at (at + s.size c p.0)
      (and_first (ltb at (at + s.size c p.0)) (leb (at + s.size c p.0) end) q.0) in
      let some : 0 < s.size c p.0 = omega arith in
      subst (λ (x : X). ((s.reads c bytes at end).outcome ≡ Ok x) × (0 < s.size c x)) (is_value p.0 v q.1) (p.1, some)

  -- Entries that are written after x are read back, up to their end.
  until_end_back : (s.valid && not s.to_end) ≡ true → (c : Context) (xs : List X) (n : ℕ) (x y : List ℕ) (end : ℕ)
      → AllByRecursion (s.Fits c) xs → AllByRecursion (λ v. 0 < s.size c v) xs
      → length x + sum_by (s.size c) xs ≡ end → sum_by (s.size c) xs ≤ n
      → (until_end s c (x ++ (flat_map (s.bytes c) xs ++ y)) end n (length x)).outcome ≡ Ok xs
  until_end_back valid c [] n x y end fits some ends enough =
      ap (λ (r : Reading (List X)). r.outcome)
      (none_follow (λ o. ltb o end) (λ o. reads_inside s c (x ++ ([] ++ y)) end o) (s.size c) n (length x)
      (le-ltb _ _ (omega (arith, ends))))
  until_end_back valid c (v ∷ xs) zero x y end fits some ends enough =
      absurd (omega (arith, some.0, enough, sum_by-cons (s.size c) v xs))
  until_end_back valid c (v ∷ xs) (suc n) x y end fits some ends enough =
      let rest = flat_map (s.bytes c) xs in
      let bytes = x ++ ((s.bytes c v ++ rest) ++ y) in
      let sum = sum_by-cons (s.size c) v xs in
      let at = next_at s is c v x fits.0 in
      let here : length x + s.size c v ≤ end = omega (arith, ends, sum) in
      let first = inside_back c bytes (length x) end v
      (first_back s is valid c v rest x y end fits.0 here) some.0 here in
      let after : (until_end s c bytes end n (length x + s.size c v)).outcome ≡ Ok xs =
      ap (λ (bs : List ℕ). (until_end s c bs end n (length x + s.size c v)).outcome) (next_bytes s is c v rest x y)
      ∙ ap (λ (k : ℕ). (until_end s c ((x ++ s.bytes c v) ++ (rest ++ y)) end n k).outcome) (sym at)
      ∙ until_end_back valid c xs n (x ++ s.bytes c v) y end fits.1 some.1 (omega (arith, ends, sum, at))
      (omega (arith, enough, sum, some.0)) in
      one_more (λ o. ltb o end) (λ o. reads_inside s c bytes end o) (s.size c) n (length x) v xs
      (lt-ltb (length x) end (omega (arith, ends, sum, some.0))) first after

  pub each_to_end_laws : IsShape (each_to_end_shape s)
  each_to_end_laws = record {
    long = λ c xs fits. length_each s is c xs (recursion_from_All (s.Fits c) xs fits.0);
    back = λ valid c xs x y end fits ends.
        until_end_back valid c xs (end - length x) x y end (recursion_from_All (s.Fits c) xs fits.0)
        (recursion_from_All (λ v. 0 < s.size c v) xs fits.1) ends (omega (arith, ends));
    stable = λ valid c bytes at end xs are read.
        let reads = λ (o : ℕ). reads_inside s c bytes end o in
        let follow = λ (o : ℕ). ltb o end in (
          All-from_recursion (s.Fits c) xs
              (all_are follow reads (s.size c) (s.Fits c)
              (λ o x e. is.stable (and_first s.valid (not s.to_end) valid) c bytes o end x are
              (inside_read c bytes o end x e).0) (end - at) at xs read),
          All-from_recursion (λ v. 0 < s.size c v) xs
              (all_are follow reads (s.size c) (λ v. 0 < s.size c v) (λ o x e. (inside_read c bytes o end x e).1)
              (end - at) at xs read),
        );
    front_first = λ c bytes at end le lt. absurd (omega arith);
    fixed_size = λ h. absurd cc;
    fixed_reads = λ h. absurd cc;
  }
