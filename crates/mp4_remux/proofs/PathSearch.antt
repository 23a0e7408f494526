-- The search for the box at a path, a part at a time.
use Rattle.std.proofs.Common.{◌≡◌, ℕ, ◌+◌, ◌-◌, ◌<◌, ◌≤◌, true, false, cond, List, [], ◌∷◌, length, drop, get_or}
use Rattle.std.proofs.Common.{None, Some, refl, ap, ◌∙◌, arith}
use Rattle.std.specs.Prelude.{nat_lt, ◌==◌}
use Rattle.std.specs.declared.option.Option.{Option}
use Rattle.std.proofs.lemmas.Bool.{cond_both, lt-ltb, le-ltb, ltb-true, ne_eqb}
use Rattle.std.proofs.lemmas.List.{drop_more}
use Rattle.mp4_frame.specs.declared.four_cc.FourCC.{FourCC}
use Rattle.mp4_walk.specs.Paths.{inside, is_meant, or_in, of_nth, at_path}
use Rattle.mp4_walk.specs.declared.path.PathPart.{PathPart}
use Rattle.mp4_walk.specs.declared.tree_box.TreeBox.{TreeBox}
use Rattle.mp4_movie.specs.declared.level.BoxLocation.{BoxLocation}
use Rattle.mp4_remux.specs.Spots.{after_spot}

-- the result of a search for the parts of a path that are left, after the box of the part before
abbrev pub reached : Option TreeBox → ℕ → List PathPart → List TreeBox → Option TreeBox
reached last d [] xs = last
reached last d (part ∷ parts) xs = at_path d (part ∷ parts) (inside d xs)

-- all boxes have a depth of at least 0
inside_all : (xs : List TreeBox) → inside 0 xs ≡ xs
inside_all [] = refl
inside_all (x ∷ xs) = let t : nat_lt x.depth 0 ≡ false =
    le-ltb x.depth 0 (omega arith) in rw t (ap (λ (ys : List TreeBox). x ∷ ys) (inside_all xs))

-- the descendants of a box within those of its parent
inside_inside : (d : ℕ) (xs : List TreeBox) → inside (d + 1) (inside d xs) ≡ inside (d + 1) xs
inside_inside d [] = refl
inside_inside d (x ∷ xs) =
    cond_both (nat_lt x.depth d) [] (x ∷ inside d xs)
    (λ (ys : List TreeBox). inside (d + 1) ys ≡ inside (d + 1) (x ∷ xs))
    (λ less. let t : nat_lt x.depth (d + 1) ≡ true =
    lt-ltb x.depth (d + 1) (let h = ltb-true x.depth d less in omega (arith, h)) in rw t refl)
    (λ _. ap (λ (ys : List TreeBox). cond (nat_lt x.depth (d + 1)) [] (x ∷ ys)) (inside_inside d xs))

-- the search at the start of a file
pub starts : (parts : List PathPart) (xs : List TreeBox) → reached None 0 parts xs ≡ at_path 0 parts xs
starts [] xs = refl
starts (part ∷ parts) xs = ap (λ (ys : List TreeBox). at_path 0 (part ∷ parts) ys) (inside_all xs)

-- the search goes on in the boxes after the box of a part
goes_on : (d : ℕ) (parts : List PathPart) (x : TreeBox) (xs : List TreeBox)
    → or_in (λ ys. at_path (d + 1) parts (inside (d + 1) ys)) parts x (inside d xs) ≡ reached (Some x) (d + 1) parts xs
goes_on d [] x xs = refl
goes_on d (part ∷ parts) x xs = ap (λ (ys : List TreeBox). at_path (d + 1) (part ∷ parts) ys) (inside_inside d xs)

module _ (next : TreeBox → List TreeBox → Option TreeBox) (d : ℕ) (code : FourCC) (k : ℕ) (x : TreeBox)
    (xs : List TreeBox) where
  -- a box that is less deep ends the level
  pub level_ends : x.depth < d → of_nth next d code k (inside d (x ∷ xs)) ≡ None
  level_ends less = let t : nat_lt x.depth d ≡ true = lt-ltb _ _ less in rw t refl

  module _ (deep : d ≤ x.depth) where
    -- another box is passed
    pub is_passed : is_meant d code x ≡ false
        → of_nth next d code k (inside d (x ∷ xs)) ≡ of_nth next d code k (inside d xs)
    is_passed other = let t : nat_lt x.depth d ≡ false = le-ltb _ _ deep in rw (t, other) refl

    -- a box of the part that is not the one
    pub is_counted : is_meant d code x ≡ true → 0 < k
        → of_nth next d code k (inside d (x ∷ xs)) ≡ of_nth next d code (k - 1) (inside d xs)
    is_counted same more =
        let t : nat_lt x.depth d ≡ false = le-ltb _ _ deep in
        let u : (k == 0) ≡ false = ne_eqb k 0 (λ e. omega (arith, e)) in
        rw (t, same, u) refl

    -- the box of the part
    pub is_spot : is_meant d code x ≡ true → k ≡ 0
        → of_nth next d code k (inside d (x ∷ xs)) ≡ next x (inside d xs)
    is_spot same none = let t : nat_lt x.depth d ≡ false = le-ltb _ _ deep in rw (t, same, none) refl

module _ (next : TreeBox → List TreeBox → Option TreeBox) (d : ℕ) (code : FourCC) (k : ℕ) (xs : List TreeBox) (i : ℕ)
    (y : TreeBox) (within : i < length xs) where
  at_box : of_nth next d code k (inside d (drop i xs))
      ≡ of_nth next d code k (inside d (get_or xs i y ∷ drop (i + 1) xs))
  at_box = ap (λ (ys : List TreeBox). of_nth next d code k (inside d ys)) (drop_more xs i y within)

  -- the level ends before box i
  pub ends_at : (get_or xs i y).depth < d → of_nth next d code k (inside d (drop i xs)) ≡ None
  ends_at less = at_box ∙ level_ends next d code k (get_or xs i y) (drop (i + 1) xs) less

  module _ (deep : d ≤ (get_or xs i y).depth) where
    -- box i is another one
    pub passes_at : is_meant d code (get_or xs i y) ≡ false
        → of_nth next d code k (inside d (drop i xs)) ≡ of_nth next d code k (inside d (drop (i + 1) xs))
    passes_at other = at_box ∙ is_passed next d code k (get_or xs i y) (drop (i + 1) xs) deep other

    -- box i is counted
    pub counts_at : is_meant d code (get_or xs i y) ≡ true → 0 < k
        → of_nth next d code k (inside d (drop i xs)) ≡ of_nth next d code (k - 1) (inside d (drop (i + 1) xs))
    counts_at same more = at_box ∙ is_counted next d code k (get_or xs i y) (drop (i + 1) xs) deep same more

    -- box i is the one
    pub found_at : is_meant d code (get_or xs i y) ≡ true → k ≡ 0
        → of_nth next d code k (inside d (drop i xs)) ≡ next (get_or xs i y) (inside d (drop (i + 1) xs))
    found_at same none = at_box ∙ is_spot next d code k (get_or xs i y) (drop (i + 1) xs) deep same none

module _ (last : Option TreeBox) (d : ℕ) (parts : List PathPart) (part : PathPart) (rest : List PathPart)
    (xs : List TreeBox) (r : Option BoxLocation) (is : parts ≡ part ∷ rest)
    (by : (next : TreeBox → List TreeBox → Option TreeBox)
    → of_nth next d part.code part.index (inside d xs) ≡ after_spot next d r) where
  abbrev in_rest : TreeBox → List TreeBox → Option TreeBox
  in_rest = or_in (λ ys. at_path (d + 1) rest (inside (d + 1) ys)) rest

  after_part : reached last d parts xs ≡ after_spot in_rest d r
  after_part = ap (λ (ps : List PathPart). reached last d ps xs) is ∙ by in_rest

  -- the level has no box of the part
  pub nowhere : r ≡ None → reached last d parts xs ≡ None
  nowhere none = after_part ∙ ap (λ (o : Option BoxLocation). after_spot in_rest d o) none

  -- the search goes on after the box of the part
  pub continues : (p : BoxLocation) → r ≡ Some p
      → reached last d parts xs ≡ reached (Some p.found) (d + 1) rest p.after.now
  continues p some =
      after_part ∙ ap (λ (o : Option BoxLocation). after_spot in_rest d o) some ∙ goes_on d rest p.found p.after.now
