-- The search for the box at a path, one box at a time.
use Rattle.std.proofs.Common.{◌≡◌, ℕ, ◌+◌, ◌-◌, ◌<◌, ◌≤◌, true, false, cond, List, [], ◌∷◌, length, drop, get_or}
use Rattle.std.proofs.Common.{refl, sym, ap, ◌∙◌, arith}
use Rattle.std.specs.Prelude.{nat_lt, ◌==◌}
use Rattle.std.proofs.lemmas.Bool.{cond_both, lt-ltb, le-ltb, ltb-true, eq-eqb}
use Rattle.std.proofs.lemmas.List.{drop-drop, drop_more}
use Rattle.mp4_frame.specs.declared.four_cc.FourCC.{FourCC}
use Rattle.mp4_walk.specs.Paths.{inside, is_code, is_meant, or_in, of_nth, at_path}
use Rattle.mp4_walk.specs.Search.{at_rest, sought}
use Rattle.mp4_walk.specs.declared.path.PathPart.{PathPart}
use Rattle.mp4_walk.specs.declared.search.Search.{Search}
use Rattle.mp4_walk.specs.declared.tree_box.TreeBox.{TreeBox}

-- all boxes have a depth of at least 0
inside_all : (xs : List TreeBox) → inside 0 xs ≡ xs
inside_all [] = refl
inside_all (x ∷ xs) = let t : nat_lt x.depth 0 ≡ false =
    le-ltb x.depth 0 (omega arith) in rw t (ap (λ (ys : List TreeBox). x ∷ ys) (inside_all xs))

-- the descendants of a box within those of its parent
inside_inside : (d : ℕ) (xs : List TreeBox) → inside (d + 1) (inside d xs) ≡ inside (d + 1) xs
inside_inside d [] = refl
inside_inside d (x ∷ xs) =
    cond_both (nat_lt x.depth d) [] (x ∷ inside d xs)
    (λ (ys : List TreeBox). inside (d + 1) ys ≡ inside (d + 1) (x ∷ xs))
    (λ less. let t : nat_lt x.depth (d + 1) ≡ true =
    lt-ltb x.depth (d + 1) (let h = ltb-true x.depth d less in omega (arith, h)) in rw t refl)
    (λ _. ap (λ (ys : List TreeBox). cond (nat_lt x.depth (d + 1)) [] (x ∷ ys)) (inside_inside d xs))

-- the box has the depth and the code of the part
pub meant : (d : ℕ) (code : FourCC) (x : TreeBox) → x.depth ≤ d → d ≤ x.depth → is_code code x.code ≡ true
    → is_meant d code x ≡ true
meant d code x most least e = let here : (x.depth == d) ≡ true = eq-eqb x.depth d (omega arith) in rw (here, e) refl

-- the parts of a path starting at part d
pub parts_from : (path : List PathPart) (d : ℕ) (part : PathPart) → d < length path → part ≡ get_or path d part
    → drop d path ≡ part ∷ drop (d + 1) path
parts_from path d part h e = drop_more path d part h ∙ ap (λ (p : PathPart). p ∷ drop (d + 1) path) (sym e)

-- the search at the start of a file
pub begins : (path : List PathPart) (xs : List TreeBox)
    → sought path (record { depth = 0; before = 0 }) xs ≡ at_path 0 path xs
begins [] xs = refl
begins (part ∷ parts) xs =
    let zero_less : part.index - 0 ≡ part.index = omega arith in
    ap (λ (ys : List TreeBox). at_rest 0 0 (part ∷ parts) ys) (inside_all xs)
    ∙ ap (λ (k : ℕ). of_nth (or_in (λ zs. at_path (0 + 1) parts (inside (0 + 1) zs)) parts) 0 part.code k xs) zero_less

module _ (path : List PathPart) (x : TreeBox) (xs : List TreeBox) where
  in_box : (s : Search) → s.depth ≤ x.depth
      → sought path s (x ∷ xs) ≡ at_rest s.depth s.before (drop s.depth path) (x ∷ inside s.depth xs)
  in_box s h = let t : nat_lt x.depth s.depth ≡ false = le-ltb _ _ h in rw t refl

  module _ (s : Search) (part : PathPart) (parts : List PathPart) (has : drop s.depth path ≡ part ∷ parts)
      (h : s.depth ≤ x.depth) where
    here : is_meant s.depth part.code x ≡ true → part.index ≤ s.before
        → sought path s (x ∷ xs) ≡ or_in (λ ys. at_path (s.depth + 1) parts (inside (s.depth + 1) ys)) parts x
        (inside s.depth xs)
    here e enough =
        let none : part.index - s.before ≡ 0 = omega arith in
        in_box s h ∙ ap (λ (ps : List PathPart). at_rest s.depth s.before ps (x ∷ inside s.depth xs)) has
        ∙ rw (e, none) refl

    -- the box is that of a part before the last, and the search continues inside it
    next_by : (ps : List PathPart) → parts ≡ ps → is_meant s.depth part.code x ≡ true → part.index ≤ s.before
        → 0 < length ps → sought path (record { depth = s.depth + 1; before = 0 }) xs ≡ sought path s (x ∷ xs)
    next_by [] is e enough more = absurd (omega arith)
    next_by (q ∷ qs) is e enough more =
        let d = s.depth in
        let after : drop (d + 1) path ≡ q ∷ qs = sym (drop-drop 1 d path)
        ∙ ap (λ (ps : List PathPart). drop 1 ps) has ∙ is in
        let zero_less : q.index - 0 ≡ q.index = omega arith in
        ap (λ (ps : List PathPart). at_rest (d + 1) 0 ps (inside (d + 1) xs)) after
        ∙ ap (λ (k : ℕ). of_nth (or_in (λ zs. at_path (d + 1 + 1) qs (inside (d + 1 + 1) zs)) qs) (d + 1) q.code k
        (inside (d + 1) xs)) zero_less
        ∙ ap (λ (ys : List TreeBox). at_path (d + 1) (q ∷ qs) ys) (sym (inside_inside d xs))
        ∙ sym (here e enough
        ∙ ap (λ (ps : List PathPart). or_in (λ ys. at_path (d + 1) ps (inside (d + 1) ys)) ps x (inside d xs)) is)

    pub next_part : is_meant s.depth part.code x ≡ true → part.index ≤ s.before → 0 < length parts
        → sought path (record { depth = s.depth + 1; before = 0 }) xs ≡ sought path s (x ∷ xs)
    next_part e enough more = next_by parts refl e enough more
