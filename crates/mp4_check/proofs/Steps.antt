-- Lists and the boxes of a level, one item after the other.
use Rattle.std.proofs.Common.{◌≡◌, ℕ, ◌+◌, ◌<◌, ◌≤◌, true, false, List, [], ◌∷◌, length, get_or, take, drop}
use Rattle.std.proofs.Common.{reverse, map, fold, refl, sym, ap, ◌∙◌}
use Rattle.std.specs.Prelude.{nat_lt}
use Rattle.std.proofs.lemmas.Bool.{le-ltb, lt-ltb}
use Rattle.std.proofs.lemmas.List.{drop_all, drop_more, reverse-append, take_more}
use Rattle.std.proofs.lemmas.List.Folds.{fold-map}
use Rattle.std.proofs.lemmas.List.Sums.{fold_more}
use Rattle.mp4_walk.specs.Paths.{inside}
use Rattle.mp4_walk.specs.declared.tree_box.TreeBox.{TreeBox}

pub fold_map_more : {X Y Z : Type 0} (f : Z → Y → Z) (g : X → Y) (z : Z) (xs : List X) (i : ℕ) (d : X)
    → i < length xs
    → fold f z (map g (take (i + 1) xs)) ≡ f (fold f z (map g (take i xs))) (g (get_or xs i d))
fold_map_more {X} {Y} {Z} f g z xs i d lt =
    fold-map f g z (take (i + 1) xs) ∙ fold_more (λ b x. f b (g x)) z xs i d lt
    ∙ ap (λ (b : Z). f b (g (get_or xs i d))) (sym (fold-map f g z (take i xs)))

pub reverse_more : {X : Type 0} (xs : List X) (i : ℕ) (d : X) → i < length xs
    → reverse (take (i + 1) xs) ≡ get_or xs i d ∷ reverse (take i xs)
reverse_more xs i d lt = ap reverse (take_more xs i d lt) ∙ reverse-append (take i xs) (get_or xs i d ∷ [])

-- The boxes that are left inside a box of which box `i` is one.
pub inside_more : (d : ℕ) (xs : List TreeBox) (i : ℕ) (x : TreeBox) → i < length xs → d ≤ (get_or xs i x).depth
    → inside d (drop i xs) ≡ get_or xs i x ∷ inside d (drop (i + 1) xs)
inside_more d xs i x lt deep =
    let no : nat_lt (get_or xs i x).depth d ≡ false = le-ltb _ _ deep in
    ap (inside d) (drop_more xs i x lt) ∙ rw no refl

pub inside_end : (d : ℕ) (xs : List TreeBox) (i : ℕ) (x : TreeBox) → i < length xs → (get_or xs i x).depth < d
    → inside d (drop i xs) ≡ []
inside_end d xs i x lt less =
    let yes : nat_lt (get_or xs i x).depth d ≡ true = lt-ltb _ _ less in
    ap (inside d) (drop_more xs i x lt) ∙ rw yes refl

pub inside_all : (d : ℕ) (xs : List TreeBox) (i : ℕ) → length xs ≤ i → inside d (drop i xs) ≡ []
inside_all d xs i le = ap (inside d) (drop_all i xs le)
