-- The differences of the boxes of two files, one box after the other.
use Rattle.std.proofs.Common.{◌≡◌, ℕ, zero, suc, ◌+◌, ◌<◌, ◌≤◌, Bool, List, [], ◌∷◌, ◌++◌, length, fold, take, drop}
use Rattle.std.proofs.Common.{get_or, refl, sym, ap, subst, ◌∙◌, append_assoc, append-nil, arith, drop-cons}
use Rattle.std.proofs.Common.{drop_of_length-le, length-append, not, true, false, None, Some, min, ap₂, flat_map}
use Rattle.std.specs.Prelude.{◌==◌, ◌-◌, ◌||◌, IfSome, nat_lt, if◌then◌else◌}
use Rattle.std.specs.declared.option.Option.{Option}
use Rattle.std.proofs.lemmas.Bool.{eqb-true, ne_eqb}
use Rattle.std.proofs.lemmas.List.{get_or-map, length-drop, length-map}
use Rattle.mp4_diff.proofs.PairSteps.{levels_more, path_at, paths_length, paths_take}
use Rattle.mp4_content.specs.Paths.{Code, entered, parts_of}
use Rattle.mp4_content.specs.declared.path.Part.{Part}
use Rattle.mp4_frame.specs.Reading.{Reading}
use Rattle.mp4_frame.specs.declared.box_type.BoxType.{BoxType}
use Rattle.mp4_diff.specs.Differences.{BoxDiffers, BoxesDiffer, Difference, Place, difference_of, differences_of}
use Rattle.mp4_diff.specs.Differences.{codes_of, only_second_in, order_at, order_inside, orders_from, partner_box}
use Rattle.mp4_diff.specs.Differences.{places, places_of, second_at}
use Rattle.mp4_diff.specs.Pairs.{AreNumbers, partner_in, partners_of, paths}
use Rattle.mp4_diff.specs.declared.pairs.Numbers.{Numbers}
use Rattle.mp4_diff.specs.declared.changes.Change.{Change}
use Rattle.mp4_shown.specs.Event.{Event}
use Rattle.mp4_shown.specs.declared.view.View.{View}
use Rattle.mp4_walk.specs.FileBoxes.{boxes_of}
use Rattle.mp4_walk.specs.declared.tree_box.BoxState.TheVariants as states
use Rattle.mp4_walk.specs.declared.tree_box.TreeBox.{TreeBox}

-- The boxes that are left.
pub left_more : (boxes : List TreeBox) (i : ℕ) (d : TreeBox) → i < length boxes
    → drop i boxes ≡ get_or boxes i d ∷ drop (i + 1) boxes
left_more boxes i d inside =
    let on : suc i ≡ i + 1 = omega arith in
    drop-cons boxes i d inside ∙ ap (λ (n : ℕ). get_or boxes i d ∷ drop n boxes) on

module _ {A : Type 0} (known : BoxType → Bool) (reading : BoxType → List ℕ → ℕ → ℕ → Reading A)
    (shown : View → A → List Event) (offsets : Bool) (file next : List ℕ) (boxes : List TreeBox) where
  -- the differences that are found, with those of the boxes that are left, are those of all boxes
  abbrev pub Leads : ℕ → List Place → Type 0
  Leads i found =
      (rest : List Place)
      → BoxesDiffer known reading shown offsets file next (fold entered [] (take i boxes)) (drop i boxes) rest
      → BoxesDiffer known reading shown offsets file next [] boxes (found ++ rest)

  -- of the boxes starting at box i, its differences come first
  differ_more : (i : ℕ) (d : TreeBox) (here : List Difference) (rest : List Place) → i < length boxes
      → BoxDiffers known reading shown offsets file next
      (parts_of (entered (fold entered [] (take i boxes)) (get_or boxes i d))) (get_or boxes i d)
      (partner_box (partner_in (paths (boxes_of next))
      (parts_of (entered (fold entered [] (take i boxes)) (get_or boxes i d)))) (boxes_of next)) here
      → BoxesDiffer known reading shown offsets file next (fold entered [] (take (i + 1) boxes)) (drop (i + 1) boxes)
      rest
      → BoxesDiffer known reading shown offsets file next (fold entered [] (take i boxes)) (drop i boxes)
      (places (parts_of (entered (fold entered [] (take i boxes)) (get_or boxes i d))) here ++ rest)
  differ_more i d here rest inside differs more =
      let after = subst (λ (opened : List (List Code)).
      BoxesDiffer known reading shown offsets file next opened (drop (i + 1) boxes) rest)
      (levels_more boxes i d inside) more in
      subst (λ (xs : List TreeBox). BoxesDiffer known reading shown offsets file next (fold entered [] (take i boxes))
      xs (places (parts_of (entered (fold entered [] (take i boxes)) (get_or boxes i d))) here ++ rest))
      (sym (left_more boxes i d inside)) (here, rest, differs, after, refl)

  pub leads_more : (i : ℕ) (found new : List Place) (d : TreeBox) (path : List Part) (here : List Difference)
      → i < length boxes
      → path ≡ parts_of (entered (fold entered [] (take i boxes)) (get_or boxes i d))
      → BoxDiffers known reading shown offsets file next path (get_or boxes i d)
      (partner_box (partner_in (paths (boxes_of next)) path) (boxes_of next)) here
      → new ≡ found ++ places path here → Leads i found → Leads (i + 1) new
  leads_more i found new d path here inside at differs put leads rest more =
      let differs_there = subst (λ (p : List Part). BoxDiffers known reading shown offsets file next p
      (get_or boxes i d) (partner_box (partner_in (paths (boxes_of next)) p) (boxes_of next)) here) at differs in
      let whole : found ++ (places (parts_of (entered (fold entered [] (take i boxes)) (get_or boxes i d))) here
      ++ rest) ≡ new ++ rest =
      sym (append_assoc found
      (places (parts_of (entered (fold entered [] (take i boxes)) (get_or boxes i d))) here) rest)
      ∙ ap (λ (p : List Part). (found ++ places p here) ++ rest) (sym at)
      ∙ ap (λ (found : List Place). found ++ rest) (sym put) in
      subst (BoxesDiffer known reading shown offsets file next [] boxes) whole
      (leads (places (parts_of (entered (fold entered [] (take i boxes)) (get_or boxes i d))) here ++ rest)
      (differ_more i d here rest inside differs_there more))

  -- no box is left
  pub leads_all : (i : ℕ) (found : List Place) → length boxes ≤ i → Leads i found
      → BoxesDiffer known reading shown offsets file next [] boxes found
  leads_all i found all leads =
      let none : drop i boxes ≡ [] = drop_of_length-le boxes all in
      subst (BoxesDiffer known reading shown offsets file next [] boxes) (append-nil found)
      (leads [] (subst (λ (xs : List TreeBox).
      BoxesDiffer known reading shown offsets file next (fold entered [] (take i boxes)) xs []) (sym none) refl))

module _ {A : Type 0} (known : BoxType → Bool) (reading : BoxType → List ℕ → ℕ → ℕ → Reading A)
    (shown : View → A → List Event) (offsets : Bool) (boxes others : List TreeBox) (numbers : Numbers)
    (partners : List (Option ℕ)) where
  -- the differences that are found lead to all, in known files whose boxes these are
  abbrev pub Led : Option (List ℕ) → Option (List ℕ) → ℕ → List Place → Type 0
  Led r s i found =
      IfSome r (λ file. IfSome s (λ next.
      boxes ≡ boxes_of file → others ≡ boxes_of next → AreNumbers (boxes_of next) numbers
      → partners ≡ partners_of (paths (boxes_of file)) (paths (boxes_of next))
      → Leads known reading shown offsets file next boxes i found))

  -- the differences of a box with this path and partner
  abbrev pub Here : Option (List ℕ) → Option (List ℕ) → List Part → TreeBox → Option ℕ → List Difference → Type 0
  Here r s path x partner here =
      IfSome r (λ file. IfSome s (λ next.
      others ≡ boxes_of next → AreNumbers (boxes_of next) numbers
      → BoxDiffers known reading shown offsets file next path x (partner_box partner (boxes_of next)) here))

  pub led_none : (r s : Option (List ℕ)) → Led r s 0 []
  led_none None s = tt
  led_none (Some file) None = tt
  led_none (Some file) (Some next) = λ all same numbered paired rest differ. differ

  pub led_more : (r s : Option (List ℕ)) (i : ℕ) (found new : List Place) (d : TreeBox) (e : Option ℕ)
      (path : List Part) (here : List Difference) → i < length boxes
      → path ≡ parts_of (entered (fold entered [] (take i boxes)) (get_or boxes i d))
      → Here r s path (get_or boxes i d) (get_or partners i e) here
      → new ≡ found ++ places path here → Led r s i found → Led r s (i + 1) new
  led_more None s i found new d e path here inside at differs put led = tt
  led_more (Some file) None i found new d e path here inside at differs put led = tt
  led_more (Some file) (Some next) i found new d e path here inside at differs put led =
      λ all same numbered paired.
      let within : i < length (paths boxes) = omega (arith, inside, paths_length [] boxes) in
      let own : get_or partners i e ≡ partner_in (paths (boxes_of next)) path =
      ap (λ (ns : List (Option ℕ)). get_or ns i e)
      (paired ∙ ap (λ (xs : List TreeBox). partners_of (paths xs) (paths (boxes_of next))) (sym all))
      ∙ get_or-map (partner_in (paths (boxes_of next))) (paths boxes) i [] e within
      ∙ ap (partner_in (paths (boxes_of next))) (path_at [] boxes i d [] inside ∙ sym at) in
      leads_more known reading shown offsets file next boxes i found new d path here inside at
      (subst (λ (n : Option ℕ). BoxDiffers known reading shown offsets file next path (get_or boxes i d)
      (partner_box n (boxes_of next)) here) own (differs same numbered)) put (led all same numbered paired)

  pub led_all : (r s : Option (List ℕ)) (i : ℕ) (found : List Place) → min (length boxes) (length partners) ≤ i
      → Led r s i found
      → IfSome r (λ file. IfSome s (λ next.
      boxes ≡ boxes_of file → others ≡ boxes_of next → AreNumbers (boxes_of next) numbers
      → partners ≡ partners_of (paths (boxes_of file)) (paths (boxes_of next))
      → BoxesDiffer known reading shown offsets file next [] (boxes_of file) found))
  led_all None s i found ends led = tt
  led_all (Some file) None i found ends led = tt
  led_all (Some file) (Some next) i found ends led =
      λ all same numbered paired.
      let many : length partners ≡ length boxes =
      ap length paired ∙ length-map (paths (boxes_of file)) (partner_in (paths (boxes_of next)))
      ∙ paths_length [] (boxes_of file) ∙ ap length (sym all) in
      subst (λ (xs : List TreeBox). BoxesDiffer known reading shown offsets file next [] xs found) all
      (leads_all known reading shown offsets file next boxes i found (omega (arith, ends, many))
      (led all same numbered paired))

flat_more : {X Y : Type 0} (f : X → List Y) (xs : List X) (x : X)
    → flat_map f (xs ++ x ∷ []) ≡ flat_map f xs ++ f x
flat_more f [] x = append-nil (f x)
flat_more {X} {Y} f (y ∷ xs) x =
    ap (λ (ys : List Y). f y ++ ys) (flat_more f xs x) ∙ sym (append_assoc (f y) (flat_map f xs) (f x))

-- One more box that only the second file may have.
pub second_more : (boxes : List TreeBox) (i : ℕ) (d : TreeBox) (p : List Part) (qs : List (List Part))
    (here : List Difference) (before old new : List Place) → i < length boxes
    → p ≡ parts_of (entered (fold entered [] (take i boxes)) (get_or boxes i d)) → here ≡ second_at qs p
    → new ≡ old ++ places p here → old ≡ before ++ only_second_in qs (paths (take i boxes))
    → new ≡ before ++ only_second_in qs (paths (take (i + 1) boxes))
second_more boxes i d p qs here before old new inside at is pushed so_far =
    pushed ∙ ap₂ (λ (xs : List Place) (ds : List Difference). xs ++ places p ds) so_far is
    ∙ append_assoc before (only_second_in qs (paths (take i boxes))) (places p (second_at qs p))
    ∙ ap (λ (xs : List Place). before ++ xs)
    (sym (ap (only_second_in qs) (paths_take boxes i d p inside at)
    ∙ flat_more (λ (q : List Part). places q (second_at qs q)) (paths (take i boxes)) p))

left_in : {X : Type 0} (xs : List X) (i : ℕ) (d : X) → i < length xs → drop i xs ≡ get_or xs i d ∷ drop (i + 1) xs
left_in {X} xs i d inside =
    let on : suc i ≡ i + 1 = omega arith in
    drop-cons xs i d inside ∙ ap (λ (n : ℕ). get_or xs i d ∷ drop n xs) on

take_own : {X : Type 0} (xs : List X) → take (length xs) xs ≡ xs
take_own [] = refl
take_own {X} (x ∷ xs) = ap (λ (ys : List X). x ∷ ys) (take_own xs)

-- A slice that begins at n.
pub take_rest : {X : Type 0} (n : ℕ) (xs : List X) → take (length xs - n) (drop n xs) ≡ drop n xs
take_rest n xs = ap (λ (k : ℕ). take k (drop n xs)) (sym (length-drop n xs)) ∙ take_own (drop n xs)

-- The order in box i.
pub order_is : (first : List TreeBox) (partners : List (Option ℕ)) (second : List TreeBox) (i : ℕ) (d : TreeBox)
    (e : Option ℕ) → i < length first → i < length partners
    → order_at first partners second i
    ≡ order_inside (get_or first i d) (drop (i + 1) first) (drop (i + 1) partners) second (get_or partners i e)
order_is [] partners second i d e inside within = absurd (omega (arith, inside))
order_is (x ∷ first) [] second i d e inside within = absurd (omega (arith, within))
order_is (x ∷ first) (n ∷ partners) second zero d e inside within = refl
order_is (x ∷ first) (n ∷ partners) second (suc i) d e inside within =
    let on : suc i + 1 ≡ suc (i + 1) = omega arith in
    order_is first partners second i d e (omega (arith, inside)) (omega (arith, within))
    ∙ sym (ap (λ (k : ℕ). order_inside (get_or first i d) (drop k (x ∷ first)) (drop k (n ∷ partners)) second
    (get_or partners i e)) on)

-- The orders in one more box.
pub orders_more : (first : List TreeBox) (partners : List (Option ℕ)) (second : List TreeBox) (i : ℕ) (d : TreeBox)
    (e : Option ℕ) (p : List Part) (here : List Difference) (old new all : List Place) → i < length first
    → i < length partners → p ≡ parts_of (entered (fold entered [] (take i first)) (get_or first i d))
    → here ≡ order_at first partners second i → new ≡ old ++ places p here
    → old ++ orders_from (fold entered [] (take i first)) (drop i first) (drop i partners) second ≡ all
    → new ++ orders_from (fold entered [] (take (i + 1) first)) (drop (i + 1) first) (drop (i + 1) partners) second
    ≡ all
orders_more first partners second i d e p here old new all inside within at is pushed so_far =
    let step : orders_from (fold entered [] (take i first)) (drop i first) (drop i partners) second
    ≡ places p here
    ++ orders_from (fold entered [] (take (i + 1) first)) (drop (i + 1) first) (drop (i + 1) partners) second =
    ap₂ (λ (xs : List TreeBox) (ns : List (Option ℕ)). orders_from (fold entered [] (take i first)) xs ns second)
    (left_in first i d inside) (left_in partners i e within)
    ∙ ap₂ (λ (q : List Part) (ds : List Difference). places q ds
    ++ orders_from (entered (fold entered [] (take i first)) (get_or first i d)) (drop (i + 1) first)
    (drop (i + 1) partners) second) (sym at) (sym (is ∙ order_is first partners second i d e inside within))
    ∙ ap (λ (levels : List (List Code)). places p here
    ++ orders_from levels (drop (i + 1) first) (drop (i + 1) partners) second) (sym (levels_more first i d inside)) in
    ap (λ (xs : List Place). xs
    ++ orders_from (fold entered [] (take (i + 1) first)) (drop (i + 1) first) (drop (i + 1) partners) second) pushed
    ∙ append_assoc old (places p here)
    (orders_from (fold entered [] (take (i + 1) first)) (drop (i + 1) first) (drop (i + 1) partners) second)
    ∙ ap (λ (xs : List Place). old ++ xs) (sym step) ∙ so_far

no_orders : (opened : List (List Code)) (first second : List TreeBox) → orders_from opened first [] second ≡ []
no_orders opened [] second = refl
no_orders opened (x ∷ first) second = refl

pub orders_end : (opened : List (List Code)) (first : List TreeBox) (partners : List (Option ℕ)) (second : List TreeBox)
    (i : ℕ) → min (length first) (length partners) ≤ i
    → orders_from opened (drop i first) (drop i partners) second ≡ []
orders_end opened [] partners second zero ends = refl
orders_end opened (x ∷ first) [] second zero ends = refl
orders_end opened (x ∷ first) (n ∷ partners) second zero ends = absurd (omega (arith, ends))
orders_end opened [] partners second (suc i) ends = refl
orders_end opened (x ∷ first) [] second (suc i) ends = no_orders opened (drop i first) second
orders_end opened (x ∷ first) (n ∷ partners) second (suc i) ends =
    orders_end opened first partners second i (omega (arith, ends))

-- The box that an index past the end would have.
abbrev pub no_box : TreeBox
no_box = record {
  depth = 0;
  code = None;
  position = 0;
  header_length = 0;
  length = 0;
  front = None;
  children = None;
  state = states.Leaf;
  context = record { parent = 0; handler = 0; stsd_version = 0 };
}

code_step : (b : Bool) (listed new : List Code) (code : Code) (n depth : ℕ) (boxes : List TreeBox) (all : List Code)
    → 64 - length listed ≡ suc n → new ≡ listed ++ (if b then code ∷ [] else [])
    → listed ++ (if b then code ∷ codes_of n depth boxes else codes_of (suc n) depth boxes) ≡ all
    → new ++ codes_of (64 - length new) depth boxes ≡ all
code_step true listed new code n depth boxes all room is so_far =
    let left : 64 - length new ≡ n = omega (arith, room, ap length is, length-append listed (code ∷ [])) in
    ap (λ (k : ℕ). new ++ codes_of k depth boxes) left
    ∙ ap (λ (xs : List Code). xs ++ codes_of n depth boxes) is
    ∙ append_assoc listed (code ∷ []) (codes_of n depth boxes) ∙ so_far
code_step false listed new code n depth boxes all room is so_far =
    let same : new ≡ listed = is ∙ append-nil listed in
    let left : 64 - length new ≡ suc n = omega (arith, room, ap length same) in
    ap (λ (k : ℕ). new ++ codes_of k depth boxes) left
    ∙ ap (λ (xs : List Code). xs ++ codes_of (suc n) depth boxes) same ∙ so_far

-- The code of one more box of a level.
pub codes_more : (boxes : List TreeBox) (i : ℕ) (d : TreeBox) (depth : ℕ) (listed new all : List Code)
    → i < length boxes → length listed < 64
    → new ≡ listed ++ (if (get_or boxes i d).depth == depth then (get_or boxes i d).code ∷ [] else [])
    → nat_lt (get_or boxes i d).depth depth ≡ false
    → listed ++ codes_of (64 - length listed) depth (drop i boxes) ≡ all
    → new ++ codes_of (64 - length new) depth (drop (i + 1) boxes) ≡ all
codes_more boxes i d depth listed new all inside few is shallow so_far =
    let room : 64 - length listed ≡ suc (63 - length listed) = omega (arith, few) in
    code_step ((get_or boxes i d).depth == depth) listed new (get_or boxes i d).code (63 - length listed) depth
    (drop (i + 1) boxes) all room is
    (ap (λ (b : Bool). listed ++ (if b then [] else
    if (get_or boxes i d).depth == depth
    then (get_or boxes i d).code ∷ codes_of (63 - length listed) depth (drop (i + 1) boxes)
    else codes_of (suc (63 - length listed)) depth (drop (i + 1) boxes))) (sym shallow)
    ∙ ap₂ (λ (k : ℕ) (xs : List TreeBox). listed ++ codes_of k depth xs) (sym room) (sym (left_in boxes i d inside))
    ∙ so_far)

-- A change has a difference.
pub change_differs : (changes : List Change) (i : ℕ) (d : Change) → i < length changes
    → 0 < length (get_or changes i d).whats.items → 0 < length (places_of changes)
change_differs [] i d inside some = absurd (omega (arith, inside))
change_differs (c ∷ changes) zero d inside some =
    let here : length (places c.path.items (differences_of c.whats.items)) ≡ length c.whats.items =
    length-map (differences_of c.whats.items) (λ (x : Difference). (c.path.items, x))
    ∙ length-map c.whats.items difference_of in
    omega (
      arith,
      some,
      here,
      length-append (places c.path.items (differences_of c.whats.items)) (places_of changes),
    )
change_differs (c ∷ changes) (suc i) d inside some =
    omega (
      arith,
      change_differs changes i d (omega (arith, inside)) some,
      length-append (places c.path.items (differences_of c.whats.items)) (places_of changes),
    )

pub not_none : (n : ℕ) → 0 < n → not (n == 0) ≡ true
not_none zero some = absurd (omega (arith, some))
not_none (suc n) some = ap not (ne_eqb (suc n) 0 (λ z. absurd (omega (arith, z))))

-- The codes stay few.
pub codes_few : (b : Bool) (code : Code) (listed new : List Code) → length listed < 64
    → new ≡ listed ++ (if b then code ∷ [] else []) → length new ≤ 64
codes_few true code listed new few is = omega (arith, few, ap length is, length-append listed (code ∷ []))
codes_few false code listed new few is = omega (arith, few, ap length (is ∙ append-nil listed))

over_step : (a : Bool) (k m depth : ℕ) (x : TreeBox) (xs : List TreeBox) → nat_lt x.depth depth ≡ a
    → (a || (m == 64)) ≡ true → k ≡ 64 - m → codes_of k depth (x ∷ xs) ≡ []
over_step a zero m depth x xs is over room = refl
over_step true (suc n) m depth x xs is over room =
    ap (λ (b : Bool). if b then [] else
    if x.depth == depth then x.code ∷ codes_of n depth xs else codes_of (suc n) depth xs) is
over_step false (suc n) m depth x xs is over room =
    let full : m ≡ 64 = eqb-true m 64 over in absurd (omega (arith, full, room))

-- A box ends the codes.
pub codes_over : (boxes : List TreeBox) (i : ℕ) (d : TreeBox) (depth : ℕ) (listed all : List Code) → i < length boxes
    → (nat_lt (get_or boxes i d).depth depth || (length listed == 64)) ≡ true
    → listed ++ codes_of (64 - length listed) depth (drop i boxes) ≡ all → listed ≡ all
codes_over boxes i d depth listed all inside over so_far =
    sym (append-nil listed)
    ∙ ap (λ (xs : List Code). listed ++ xs)
    (sym (ap (codes_of (64 - length listed) depth) (left_in boxes i d inside)
    ∙ over_step (nat_lt (get_or boxes i d).depth depth) (64 - length listed) (length listed) depth (get_or boxes i d)
    (drop (i + 1) boxes) refl over refl))
    ∙ so_far

no_codes : (k depth : ℕ) → codes_of k depth [] ≡ []
no_codes zero depth = refl
no_codes (suc k) depth = refl

-- No box is left.
pub codes_end : (boxes : List TreeBox) (i depth : ℕ) (listed all : List Code) → length boxes ≤ i
    → listed ++ codes_of (64 - length listed) depth (drop i boxes) ≡ all → listed ≡ all
codes_end boxes i depth listed all ends so_far =
    sym (append-nil listed)
    ∙ ap (λ (xs : List Code). listed ++ xs)
    (sym (ap (codes_of (64 - length listed) depth) (drop_of_length-le boxes ends)
    ∙ no_codes (64 - length listed) depth))
    ∙ so_far
