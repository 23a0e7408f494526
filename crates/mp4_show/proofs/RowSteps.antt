-- The fields of a row are handed over one by one.
use Rattle.std.proofs.Common.{◌≡◌, ℕ, suc, zero, ◌+◌, ◌<◌, ◌≤◌, min, List, [], ◌∷◌, ◌++◌, length, map, take, get_or, ap}
use Rattle.std.proofs.Common.{◌∙◌, arith}
use Rattle.std.proofs.lemmas.Grind.{common_steps}
use Rattle.std.proofs.lemmas.List.{take_all, length-map}
use Rattle.std.proofs.lemmas.Slice.Zip.{length-zip}
use Rattle.std.specs.List.{flat_map, fold, zip}
use Rattle.mp4_shown.specs.Event.{Event}

module _ {A B C D : Type 0} (name : A → C) (part : B → D) (shown : C × D → List Event) where
  -- the names and parts of all places
  abbrev pairs : List A → List B → List (C × D)
  pairs names parts = zip (map name names) (map part parts)

  one_more : (names : List A) (parts : List B) (i : ℕ) (d : A) (e : B) → i < length names → i < length parts
      → flat_map shown (take i (pairs names parts)) ++ shown (name (get_or names i d), part (get_or parts i e))
      ≡ flat_map shown (take (i + 1) (pairs names parts))
  one_more [] parts i d e in_names in_parts = absurd (omega arith)
  one_more (f ∷ fs) [] i d e in_names in_parts = absurd (omega arith)
  one_more (f ∷ fs) (p ∷ ps) zero d e in_names in_parts = grind (arith, common_steps)
  one_more (f ∷ fs) (p ∷ ps) (suc i) d e in_names in_parts =
      let h = one_more fs ps i d e (omega arith) (omega arith) in grind (arith, common_steps, h)

  pub fold_one_more : {T : Type 0} (after : T → Event → T) (t u v : T) (names : List A) (parts : List B) (i : ℕ)
      (d : A) (e : B) → i < length names → i < length parts
      → u ≡ fold after t (flat_map shown (take i (pairs names parts)))
      → v ≡ fold after u (shown (name (get_or names i d), part (get_or parts i e)))
      → v ≡ fold after t (flat_map shown (take (i + 1) (pairs names parts)))
  fold_one_more after t u v names parts i d e in_names in_parts before here =
      let h = one_more names parts i d e in_names in_parts in rw (← h) (grind (arith, common_steps))

  -- all of them
  pub fold_all : {T : Type 0} (after : T → Event → T) (t v : T) (names : List A) (parts : List B) (i : ℕ)
      → min (length names) (length parts) ≤ i
      → v ≡ fold after t (flat_map shown (take i (pairs names parts)))
      → v ≡ fold after t (flat_map shown (pairs names parts))
  fold_all after t v names parts i past e =
      let all : take i (pairs names parts) ≡ pairs names parts =
      take_all i (pairs names parts)
      (omega (arith, length-zip (map name names) (map part parts), length-map names name, length-map parts part)) in
      e ∙ ap (λ (ps : List (C × D)). fold after t (flat_map shown ps)) all
