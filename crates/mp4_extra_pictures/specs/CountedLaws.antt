-- The laws of entries whose count is in the context follow from those of an entry.
use Rattle.std.proofs.Common.{◌≡◌, ℕ, ◌+◌, ◌<◌, ◌≤◌, ◌&&◌, true, not, List, [], ◌∷◌, ◌++◌, length, Ok, refl, sym, ap}
use Rattle.std.proofs.Common.{◌∙◌, arith}
use Rattle.std.specs.List.{flat_map, sum_by, All, AllByRecursion}
use Rattle.std.proofs.lemmas.List.Elements.{All-from_recursion, recursion_from_All}
use Rattle.std.proofs.lemmas.List.Sums.{sum_by-cons}
use Rattle.mp4_frame.specs.Laws.{AreBytes}
use Rattle.mp4_frame.specs.Reading.{Reading}
use Rattle.mp4_declared.specs.declared.context.Context.{Context}
use Rattle.mp4_declared.specs.BitsLaws.{and_first}
use Rattle.mp4_declared.specs.Each.{counted}
use Rattle.mp4_declared.specs.EachLaws.{none_counted, one_more, all_are, as_counted, length_each, first_back, next_at}
use Rattle.mp4_declared.specs.EachLaws.{next_bytes}
use Rattle.mp4_declared.specs.Shape.{Shape}
use Rattle.mp4_declared.specs.ShapeLaws.{IsShape}
use Rattle.mp4_extra_pictures.specs.Counted.{counted_shape}

module _ {X : Type 0} (s : Shape X) (is : IsShape s) where
  -- Entries that are written after x are read back.
  entries_back : (s.valid && not s.to_end) ≡ true → (c : Context) (xs : List X) (x y : List ℕ) (end : ℕ)
      → AllByRecursion (s.Fits c) xs → length x + sum_by (s.size c) xs ≤ end
      → (counted s c (x ++ (flat_map (s.bytes c) xs ++ y)) end (length xs) (length x)).outcome ≡ Ok xs
  entries_back valid c [] x y end fits ends =
      ap (λ (r : Reading (List X)). r.outcome)
      (none_counted (λ _. true) (λ o. s.reads c (x ++ ([] ++ y)) o end) (s.size c) (length x))
  entries_back valid c (v ∷ xs) x y end fits ends =
      let rest = flat_map (s.bytes c) xs in
      let bytes = x ++ ((s.bytes c v ++ rest) ++ y) in
      let sum = sum_by-cons (s.size c) v xs in
      let at = next_at s is c v x fits.0 in
      let first = first_back s is valid c v rest x y end fits.0 (omega (arith, ends, sum)) in
      let after : (counted s c bytes end (length xs) (length x + s.size c v)).outcome ≡ Ok xs =
      ap (λ (bs : List ℕ). (counted s c bs end (length xs) (length x + s.size c v)).outcome)
      (next_bytes s is c v rest x y)
      ∙ ap (λ (k : ℕ). (counted s c ((x ++ s.bytes c v) ++ (rest ++ y)) end (length xs) k).outcome) (sym at)
      ∙ entries_back valid c xs (x ++ s.bytes c v) y end fits.1 (omega (arith, ends, sum, at)) in
      one_more (λ _. true) (λ o. s.reads c bytes o end) (s.size c) (length xs) (length x) v xs refl first after

  pub counted_laws : IsShape (counted_shape s)
  counted_laws = record {
    long = λ c xs fits. length_each s is c xs (recursion_from_All (s.Fits c) xs fits.1);
    back = λ valid c xs x y end fits ends.
        let back = entries_back valid c xs x y end (recursion_from_All (s.Fits c) xs fits.1) ends in
        ap (λ (n : ℕ). (counted s c (x ++ (flat_map (s.bytes c) xs ++ y)) end n (length x)).outcome) (sym fits.0)
        ∙ back;
    stable = λ valid c bytes at end xs are read.
        let reads = λ (o : ℕ). s.reads c bytes o end in (
          as_counted (λ _. true) reads (s.size c) (λ _. refl) c.flags at xs read,
          All-from_recursion (s.Fits c) xs
              (all_are (λ _. true) reads (s.size c) (s.Fits c)
              (λ o x e. is.stable (and_first s.valid (not s.to_end) valid) c bytes o end x are e) c.flags at xs read),
        );
    front_first = λ c bytes at end le lt. absurd (omega arith);
    fixed_size = λ h. absurd cc;
    fixed_reads = λ h. absurd cc;
  }
