-- The paths of boxes, and their numbers in a map.
use Rattle.std.proofs.Common.{◌≡◌, ℕ, zero, suc, ◌+◌, ◌<◌, Bool, true, false, cond, List, [], ◌∷◌, ◌++◌, length, fold}
use Rattle.std.proofs.Common.{take, get_or, None, Some, is_eq, nat_cmp, Ordering, Less, Equal, Greater, true≢false}
use Rattle.std.proofs.Common.{drop, drop-cons, min, ◌≤◌, refl, sym, ap, ap₂, ◌∙◌, arith, length-take}
use Rattle.std.specs.Prelude.{◌==◌, ◌&&◌, nat_eq, nat_lt, if◌then◌else◌}
use Rattle.std.specs.BTreeMap.{insert_entry}
use Rattle.std.specs.Cmp.Lexicographic.{bytes_decides, pointwise, slice_cmp, texts_ties}
use Rattle.std.specs.Map.{lookup}
use Rattle.std.specs.Ordering.{match_ordering}
use Rattle.std.specs.declared.option.Option.{Option}
use Rattle.std.proofs.lemmas.List.{map_push, take_more}
use Rattle.std.proofs.lemmas.List.Sums.{fold-append}
use Rattle.mp4_content.specs.Paths.{Code, code_key, entered, parts_of}
use Rattle.mp4_content.specs.declared.path.Part.{Part}
use Rattle.mp4_diff.specs.Pairs.{goes_on, is_rising, is_same_path, key_of, later, least_after, partner_in}
use Rattle.mp4_diff.specs.Pairs.{partners_of, paths, paths_from}
use Rattle.mp4_walk.specs.declared.tree_box.TreeBox.{TreeBox}

-- The path of one more box.
pub paths_more : (opened : List (List Code)) (boxes : List TreeBox) (x : TreeBox)
    → paths_from opened (boxes ++ x ∷ [])
    ≡ paths_from opened boxes ++ parts_of (entered (fold entered opened boxes) x) ∷ []
paths_more opened [] x = refl
paths_more opened (y ∷ boxes) x =
    ap (λ (ps : List (List Part)). parts_of (entered opened y) ∷ ps) (paths_more (entered opened y) boxes x)

pub paths_length : (opened : List (List Code)) (boxes : List TreeBox)
    → length (paths_from opened boxes) ≡ length boxes
paths_length opened [] = refl
paths_length opened (x ∷ boxes) = ap suc (paths_length (entered opened x) boxes)

none_later : (b : Bool) → later None b ≡ (if b then Some 0 else None)
none_later true = refl
none_later false = refl

if_later : (b here : Bool) (n : ℕ) (o : Option ℕ)
    → later (if b then Some n else o) here ≡ (if b then Some (suc n) else later o here)
if_later true here n o = refl
if_later false here n o = refl

-- The number of the last box with a path, after one more box.
pub partner_more : (ps : List (List Part)) (p path : List Part)
    → partner_in (ps ++ p ∷ []) path ≡ (if is_same_path path p then Some (length ps) else partner_in ps path)
partner_more [] p path = none_later (is_same_path path p)
partner_more (q ∷ ps) p path =
    ap (λ (o : Option ℕ). later o (is_same_path path q)) (partner_more ps p path)
    ∙ if_later (is_same_path path p) (is_same_path path q) (length ps) (partner_in ps path)

-- Paths are the same if and only if their keys are.
same_keys : (path other : List Part) → pointwise nat_eq (key_of path) (key_of other) ≡ is_same_path path other
same_keys [] [] = refl
same_keys [] (q ∷ other) = refl
same_keys (p ∷ path) [] = refl
same_keys (p ∷ path) (q ∷ other) =
    ap (λ (b : Bool). (code_key p.code == code_key q.code) && ((p.index == q.index) && b)) (same_keys path other)

pub same_path : (path other : List Part)
    → is_eq (slice_cmp nat_cmp (key_of path) (key_of other)) ≡ is_same_path path other
same_path path other = sym (texts_ties (key_of path) (key_of other)) ∙ same_keys path other

same_list : (xs ys : List ℕ) → is_eq (slice_cmp nat_cmp xs ys) ≡ true → xs ≡ ys
same_list xs ys equal = (bytes_decides xs ys).0 (texts_ties xs ys ∙ equal)

as_itself : (xs : List ℕ) → is_eq (slice_cmp nat_cmp xs xs) ≡ true
as_itself xs = sym (texts_ties xs xs) ∙ (bytes_decides xs xs).1 refl

-- The value of a map at a key, after one more entry.
module _ {K : Type 0} (bytes : K → List ℕ) (key : List ℕ) where
  abbrev is_here : K → Bool
  is_here k = is_eq (slice_cmp nat_cmp key (bytes k))

  abbrev order : K → K → Ordering
  order x y = slice_cmp nat_cmp (bytes x) (bytes y)

  replaced : (b : Bool) (v w : ℕ) (o : Option ℕ)
      → cond b (Some v) o ≡ (if b then Some v else cond b (Some w) o)
  replaced true v w o = refl
  replaced false v w o = refl

  passed : (here new : Bool) (v w : ℕ) (o more : Option ℕ) → more ≡ (if new then Some v else o)
      → (here ≡ true → new ≡ true → true ≡ false)
      → cond here (Some w) more ≡ (if new then Some v else cond here (Some w) o)
  passed true true v w o more is both = absurd (true≢false (both refl refl))
  passed true false v w o more is both = refl
  passed false true v w o more is both = is
  passed false false v w o more is both = is

  entered_at : (r : Ordering) (e : K × ℕ) (es more : List (K × ℕ)) (k : K) (v : ℕ) → order k e.0 ≡ r
      → lookup is_here more ≡ (if is_here k then Some v else lookup is_here es)
      → lookup is_here (match_ordering r ((k, v) ∷ e ∷ es) ((e.0, v) ∷ es) (e ∷ more))
      ≡ (if is_here k then Some v else lookup is_here (e ∷ es))
  entered_at Less e es more k v is rest = refl
  entered_at Equal e es more k v is rest =
      let same : bytes k ≡ bytes e.0 = same_list (bytes k) (bytes e.0) (ap is_eq is) in
      let here : is_here k ≡ is_here e.0 = ap (λ (xs : List ℕ). is_eq (slice_cmp nat_cmp key xs)) same in
      replaced (is_here e.0) v e.1 (lookup is_here es)
      ∙ ap (λ (b : Bool). if b then Some v else cond (is_here e.0) (Some e.1) (lookup is_here es)) (sym here)
  entered_at Greater e es more k v is rest =
      passed (is_here e.0) (is_here k) v e.1 (lookup is_here es) (lookup is_here more) rest
      (λ old new.
      let same : bytes k ≡ bytes e.0 = sym (same_list key (bytes k) new) ∙ same_list key (bytes e.0) old in
      let equal : is_eq (order k e.0) ≡ true =
      ap (λ (xs : List ℕ). is_eq (slice_cmp nat_cmp (bytes k) xs)) (sym same) ∙ as_itself (bytes k) in
      sym equal ∙ ap is_eq is)

  pub inserted : (es : List (K × ℕ)) (k : K) (v : ℕ)
      → lookup is_here (insert_entry order es k v) ≡ (if is_here k then Some v else lookup is_here es)
  inserted [] k v = refl
  inserted (e ∷ es) k v =
      entered_at (order k e.0) e es (insert_entry order es k v) k v refl (inserted es k v)

-- The path of one more of these boxes.
pub paths_take : (boxes : List TreeBox) (i : ℕ) (d : TreeBox) (p : List Part) → i < length boxes
    → p ≡ parts_of (entered (fold entered [] (take i boxes)) (get_or boxes i d))
    → paths (take (i + 1) boxes) ≡ paths (take i boxes) ++ p ∷ []
paths_take boxes i d p inside at =
    ap paths (take_more boxes i d inside) ∙ paths_more [] (take i boxes) (get_or boxes i d)
    ∙ ap (λ (q : List Part). paths (take i boxes) ++ q ∷ []) (sym at)

-- The numbers of boxes, after one more box.
pub numbers_more : {K : Type 0} (items : K → List ℕ) (boxes : List TreeBox) (i : ℕ) (d : TreeBox)
    (old new : List (K × ℕ)) (k : K) (p : List Part) → i < length boxes
    → p ≡ parts_of (entered (fold entered [] (take i boxes)) (get_or boxes i d)) → items k ≡ key_of p
    → new ≡ insert_entry (λ x y. slice_cmp nat_cmp (items x) (items y)) old k i
    → ((path : List Part) → lookup (λ q. is_eq (slice_cmp nat_cmp (key_of path) (items q))) old
    ≡ partner_in (paths (take i boxes)) path)
    → (path : List Part) → lookup (λ q. is_eq (slice_cmp nat_cmp (key_of path) (items q))) new
    ≡ partner_in (paths (take (i + 1) boxes)) path
numbers_more {K} items boxes i d old new k p inside at keyed put so_far path =
    let here : K → Bool = λ q. is_eq (slice_cmp nat_cmp (key_of path) (items q)) in
    let key : here k ≡ is_same_path path p =
    ap (λ (xs : List ℕ). is_eq (slice_cmp nat_cmp (key_of path) xs)) keyed ∙ same_path path p in
    let long : length (paths (take i boxes)) ≡ i =
    omega (arith, inside, paths_length [] (take i boxes), length-take i boxes) in
    let all : paths (take (i + 1) boxes) ≡ paths (take i boxes) ++ p ∷ [] = paths_take boxes i d p inside at in
    ap (lookup here) put ∙ inserted items (key_of path) old k i
    ∙ ap (λ (b : Bool). if b then Some i else lookup here old) key
    ∙ ap (λ (o : Option ℕ). if is_same_path path p then Some i else o) (so_far path)
    ∙ ap (λ (n : ℕ). if is_same_path path p then Some n else partner_in (paths (take i boxes)) path) (sym long)
    ∙ sym (partner_more (paths (take i boxes)) p path)
    ∙ ap (λ (qs : List (List Part)). partner_in qs path) (sym all)

-- The path of box i.
pub path_at : (opened : List (List Code)) (boxes : List TreeBox) (i : ℕ) (d : TreeBox) (e : List Part)
    → i < length boxes
    → get_or (paths_from opened boxes) i e
    ≡ parts_of (entered (fold entered opened (take i boxes)) (get_or boxes i d))
path_at opened [] i d e inside = absurd (omega (arith, inside))
path_at opened (x ∷ boxes) zero d e inside = refl
path_at opened (x ∷ boxes) (suc i) d e inside =
    path_at (entered opened x) boxes i d e (omega (arith, inside))

-- The levels that are open after one more box.
pub levels_more : (boxes : List TreeBox) (i : ℕ) (d : TreeBox) → i < length boxes
    → fold entered [] (take (i + 1) boxes) ≡ entered (fold entered [] (take i boxes)) (get_or boxes i d)
levels_more boxes i d inside =
    ap (fold entered []) (take_more boxes i d inside) ∙ fold-append entered [] (take i boxes) (get_or boxes i d ∷ [])

-- The partner of one more box.
pub partners_more : (boxes : List TreeBox) (i : ℕ) (d : TreeBox) (p : List Part) (qs : List (List Part)) (n : Option ℕ)
    (old new : List (Option ℕ)) → i < length boxes
    → p ≡ parts_of (entered (fold entered [] (take i boxes)) (get_or boxes i d)) → n ≡ partner_in qs p
    → new ≡ old ++ n ∷ [] → old ≡ partners_of (paths (take i boxes)) qs
    → new ≡ partners_of (paths (take (i + 1) boxes)) qs
partners_more boxes i d p qs n old new inside at is pushed so_far =
    pushed ∙ ap₂ (λ (ns : List (Option ℕ)) (m : Option ℕ). ns ++ m ∷ []) so_far is
    ∙ sym (ap (λ (ps : List (List Part)). partners_of ps qs) (paths_take boxes i d p inside at)
    ∙ map_push (partner_in qs) (paths (take i boxes)) p)

-- The boxes that are left, and their partners.
left_more : {X : Type 0} (xs : List X) (i : ℕ) (d : X) → i < length xs → drop i xs ≡ get_or xs i d ∷ drop (i + 1) xs
left_more {X} xs i d inside =
    let on : suc i ≡ i + 1 = omega arith in
    drop-cons xs i d inside ∙ ap (λ (n : ℕ). get_or xs i d ∷ drop n xs) on

pub rising_step : (boxes : List TreeBox) (partners : List (Option ℕ)) (depth least i : ℕ) (d : TreeBox) (e : Option ℕ)
    → i < length boxes → i < length partners
    → is_rising depth least (drop i boxes) (drop i partners)
    ≡ (if nat_lt (get_or boxes i d).depth depth then true
    else goes_on (λ next. is_rising depth next (drop (i + 1) boxes) (drop (i + 1) partners))
    (least_after depth least (get_or boxes i d) (get_or partners i e)))
rising_step boxes partners depth least i d e inside within =
    ap₂ (is_rising depth least) (left_more boxes i d inside) (left_more partners i e within)

no_partner : (depth least : ℕ) (boxes : List TreeBox) → is_rising depth least boxes [] ≡ true
no_partner depth least [] = refl
no_partner depth least (x ∷ boxes) = refl

-- No box is left.
pub rising_ends : (boxes : List TreeBox) (partners : List (Option ℕ)) (depth least i : ℕ)
    → min (length boxes) (length partners) ≤ i
    → is_rising depth least (drop i boxes) (drop i partners) ≡ true
rising_ends [] partners depth least zero ends = refl
rising_ends (x ∷ boxes) [] depth least zero ends = refl
rising_ends (x ∷ boxes) (n ∷ partners) depth least zero ends = absurd (omega (arith, ends))
rising_ends [] partners depth least (suc i) ends = refl
rising_ends (x ∷ boxes) [] depth least (suc i) ends = no_partner depth least (drop i boxes)
rising_ends (x ∷ boxes) (n ∷ partners) depth least (suc i) ends =
    rising_ends boxes partners depth least i (omega (arith, ends))
