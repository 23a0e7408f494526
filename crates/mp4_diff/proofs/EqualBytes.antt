-- The number of equal bytes at the beginnings of two lists.
use Rattle.std.proofs.Common.{◌≡◌, ℕ, zero, suc, ◌+◌, ◌-◌, ◌^◌, ◌<◌, ◌≤◌, min, Bool, true, false, List, [], ◌∷◌, length}
use Rattle.std.proofs.Common.{take, drop, None, Some, refl, sym, ap, ap₂, arith, ◌∙◌}
use Rattle.std.specs.Prelude.{◌==◌, IfSome, if◌then◌else◌}
use Rattle.std.specs.declared.option.Option.{Option}
use Rattle.std.proofs.lemmas.List.{drop-drop, length-drop, length-take}
use Rattle.mp4_content.proofs.PieceSteps.{box_bytes}
use Rattle.mp4_diff.specs.BytesDiffer.{differs_after, differs_at, equal_bytes, place_of, size_of}
use Rattle.mp4_content.specs.Pieces.{bytes_of_box}
use Rattle.mp4_walk.specs.declared.tree_box.TreeBox.{TreeBox}
use Rattle.mp4_walk.specs.Source.{piece}

take_step : (b : Bool) (n m e : ℕ) → m ≡ min n e
    → (if b then suc m else 0) ≡ min (suc n) (if b then suc e else 0)
take_step true n m e is = omega (arith, is)
take_step false n m e is = omega arith

-- The first n bytes have at most n equal ones.
pub equal_take : (n : ℕ) (xs ys : List ℕ) → equal_bytes (take n xs) (take n ys) ≡ min n (equal_bytes xs ys)
equal_take zero xs ys = omega arith
equal_take (suc n) [] ys = omega arith
equal_take (suc n) (x ∷ xs) [] = omega arith
equal_take (suc n) (x ∷ xs) (y ∷ ys) =
    take_step (x == y) n (equal_bytes (take n xs) (take n ys)) (equal_bytes xs ys) (equal_take n xs ys)

none_equal : (xs : List ℕ) → equal_bytes xs [] ≡ 0
none_equal [] = refl
none_equal (x ∷ xs) = refl

-- After the end of the shorter list there are none.
pub equal_ends : (n : ℕ) (xs ys : List ℕ) → min (length xs) (length ys) ≤ n
    → equal_bytes (drop n xs) (drop n ys) ≡ 0
equal_ends zero [] ys ends = refl
equal_ends zero (x ∷ xs) [] ends = refl
equal_ends zero (x ∷ xs) (y ∷ ys) ends = absurd (omega (arith, ends))
equal_ends (suc n) [] ys ends = refl
equal_ends (suc n) (x ∷ xs) [] ends = none_equal (drop n xs)
equal_ends (suc n) (x ∷ xs) (y ∷ ys) ends = equal_ends n xs ys (omega (arith, ends))

drop_step : (b : Bool) (n m e : ℕ) → (n ≤ e → m ≡ e - n) → suc n ≤ (if b then suc e else 0)
    → m ≡ (if b then suc e else 0) - suc n
drop_step true n m e is le = omega (arith, is (omega (arith, le)), le)
drop_step false n m e is le = absurd (omega (arith, le))

-- After n equal bytes there are n fewer.
pub equal_drop : (n : ℕ) (xs ys : List ℕ) → n ≤ equal_bytes xs ys
    → equal_bytes (drop n xs) (drop n ys) ≡ equal_bytes xs ys - n
equal_drop zero xs ys le = omega arith
equal_drop (suc n) [] ys le = absurd (omega (arith, le))
equal_drop (suc n) (x ∷ xs) [] le = absurd (omega (arith, le))
equal_drop (suc n) (x ∷ xs) (y ∷ ys) le =
    drop_step (x == y) n (equal_bytes (drop n xs) (drop n ys)) (equal_bytes xs ys) (equal_drop n xs ys) le

cut_step : (b : Bool) (j k m e : ℕ) → m ≡ min (min j k) e
    → (if b then suc m else 0) ≡ min (min (suc j) (suc k)) (if b then suc e else 0)
cut_step true j k m e is = omega (arith, is)
cut_step false j k m e is = omega arith

-- Two beginnings have at most as many equal bytes as the shorter one has.
pub equal_cut : (a b : ℕ) (xs ys : List ℕ)
    → equal_bytes (take a xs) (take b ys)
    ≡ min (min (length (take a xs)) (length (take b ys))) (equal_bytes xs ys)
equal_cut zero b xs ys = omega arith
equal_cut (suc a) zero [] ys = omega arith
equal_cut (suc a) zero (x ∷ xs) ys = omega arith
equal_cut (suc a) (suc b) [] ys = omega arith
equal_cut (suc a) (suc b) (x ∷ xs) [] = omega arith
equal_cut (suc a) (suc b) (x ∷ xs) (y ∷ ys) =
    cut_step (x == y) (length (take a xs)) (length (take b ys)) (equal_bytes (take a xs) (take b ys))
    (equal_bytes xs ys) (equal_cut a b xs ys)

-- The number of equal bytes of two pieces, after `at` equal bytes.
piece_equal : (file next : List ℕ) (p q at count equal : ℕ) → at ≤ equal_bytes (drop p file) (drop q next)
    → equal ≡ equal_bytes (piece file (p + at) count) (piece next (q + at) count)
    → equal ≡ min count (equal_bytes (drop p file) (drop q next) - at)
piece_equal file next p q at count equal le is =
    let cut : equal_bytes (piece file (p + at) count) (piece next (q + at) count)
    ≡ min count (equal_bytes (drop (p + at) file) (drop (q + at) next)) =
    equal_take count (drop (p + at) file) (drop (q + at) next) in
    let left : equal_bytes (drop (p + at) file) (drop (q + at) next)
    ≡ equal_bytes (drop p file) (drop q next) - at =
    ap₂ equal_bytes (sym (drop-drop at p file)) (sym (drop-drop at q next))
    ∙ equal_drop at (drop p file) (drop q next) le in
    omega (arith, is, cut, left)

-- All earlier bytes are equal, and those of one more piece.
pub equal_next : (r s : Option (List ℕ)) (p q at count equal : ℕ) (left right : List ℕ)
    → IfSome r (λ file. IfSome s (λ next. at ≤ equal_bytes (drop p file) (drop q next)))
    → IfSome r (λ file. left ≡ piece file (p + at) count) → IfSome s (λ next. right ≡ piece next (q + at) count)
    → equal ≡ equal_bytes left right → count ≤ equal
    → IfSome r (λ file. IfSome s (λ next. at + count ≤ equal_bytes (drop p file) (drop q next)))
equal_next None s p q at count equal left right so_far one other is all = tt
equal_next (Some file) None p q at count equal left right so_far one other is all = tt
equal_next (Some file) (Some next) p q at count equal left right so_far one other is all =
    omega (arith, so_far, all, piece_equal file next p q at count equal so_far (is ∙ ap₂ equal_bytes one other))

-- A piece has a byte that differs.
pub equal_here : (r s : Option (List ℕ)) (p q at count size equal : ℕ) (left right : List ℕ)
    → IfSome r (λ file. IfSome s (λ next. at ≤ equal_bytes (drop p file) (drop q next)))
    → IfSome r (λ file. left ≡ piece file (p + at) count) → IfSome s (λ next. right ≡ piece next (q + at) count)
    → equal ≡ equal_bytes left right → equal < count → at + count ≤ size
    → IfSome r (λ file. IfSome s (λ next. at + equal ≡ equal_bytes (piece file p size) (piece next q size)))
equal_here None s p q at count size equal left right so_far one other is differs inside = tt
equal_here (Some file) None p q at count size equal left right so_far one other is differs inside = tt
equal_here (Some file) (Some next) p q at count size equal left right so_far one other is differs inside =
    let whole : equal_bytes (piece file p size) (piece next q size) ≡ min size (equal_bytes (drop p file)
    (drop q next)) = equal_take size (drop p file) (drop q next) in
    omega (
      arith,
      so_far,
      differs,
      inside,
      whole,
      piece_equal file next p q at count equal so_far (is ∙ ap₂ equal_bytes one other),
    )

-- All bytes are equal.
pub equal_all : (r s : Option (List ℕ)) (p q at size : ℕ)
    → IfSome r (λ file. IfSome s (λ next. at ≤ equal_bytes (drop p file) (drop q next))) → size ≤ at
    → IfSome r (λ file. IfSome s (λ next. size ≡ equal_bytes (piece file p size) (piece next q size)))
equal_all None s p q at size so_far ends = tt
equal_all (Some file) None p q at size so_far ends = tt
equal_all (Some file) (Some next) p q at size so_far ends =
    omega (arith, so_far, ends, equal_take size (drop p file) (drop q next))

-- The bytes of two boxes: those that both files have begin with as many equal bytes.
pub boxes_equal : (content : Bool) (file next : List ℕ) (x y l r : TreeBox) (here there equal : ℕ)
    → length file < 2 ^ 64 → length next < 2 ^ 64 → l ≡ place_of content x → r ≡ place_of content y
    → here ≡ min l.length (length file - l.position) → there ≡ min r.length (length next - r.position)
    → equal ≡ equal_bytes (piece file l.position (min here there)) (piece next r.position (min here there))
    → (equal ≡ equal_bytes (bytes_of_box content file x) (bytes_of_box content next y))
    × (here ≡ length (bytes_of_box content file x)) × (there ≡ length (bytes_of_box content next y))
boxes_equal content file next x y l r here there equal short less left right first second is =
    let one : piece file l.position l.length ≡ bytes_of_box content file x =
    ap (λ (b : TreeBox). piece file b.position b.length) left ∙ box_bytes content file x short in
    let other : piece next r.position r.length ≡ bytes_of_box content next y =
    ap (λ (b : TreeBox). piece next b.position b.length) right ∙ box_bytes content next y less in
    let long : here ≡ length (piece file l.position l.length) =
    omega (
      arith,
      first,
      length-take l.length (drop l.position file),
      length-drop l.position file,
    ) in
    let far : there ≡ length (piece next r.position r.length) =
    omega (
      arith,
      second,
      length-take r.length (drop r.position next),
      length-drop r.position next,
    ) in
    let cut : equal_bytes (piece file l.position l.length) (piece next r.position r.length)
    ≡ min (min (length (piece file l.position l.length)) (length (piece next r.position r.length)))
    (equal_bytes (drop l.position file) (drop r.position next)) =
    equal_cut l.length r.length (drop l.position file) (drop r.position next) in
    let same : equal ≡ equal_bytes (piece file l.position l.length) (piece next r.position r.length) =
    omega (
      arith,
      is,
      equal_take (min here there) (drop l.position file) (drop r.position next),
      cut,
      long,
      far,
    ) in (
      same ∙ ap₂ equal_bytes one other,
      long ∙ ap length one,
      far ∙ ap length other,
    )

-- The position of the first byte that differs, in known files.
pub differs_known : (r s : Option (List ℕ)) (content : Bool) (x y left right : TreeBox) (m n here there size equal : ℕ)
    (at : Option ℕ) → m < 2 ^ 64 → n < 2 ^ 64 → IfSome r (λ file. m ≡ length file) → IfSome s (λ next. n ≡ length next)
    → left ≡ place_of content x → right ≡ place_of content y
    → here ≡ min left.length (m - left.position) → there ≡ min right.length (n - right.position)
    → size ≡ min here there
    → IfSome r (λ file. IfSome s (λ next.
    equal ≡ equal_bytes (piece file left.position size) (piece next right.position size)))
    → at ≡ differs_after equal here there (left.length == right.length)
    → IfSome r (λ file. IfSome s (λ next. at ≡ differs_at content file x next y))
differs_known None s content x y left right m n here there size equal at short less long far one other first second
    least is ends = tt
differs_known (Some file) None content x y left right m n here there size equal at short less long far one other first
    second least is ends = tt
differs_known (Some file) (Some next) content x y left right m n here there size equal at short less long far one other
    first second least is ends =
    let whole = boxes_equal content file next x y left right here there equal (omega (arith, short, long))
    (omega (arith, less, far)) one other (omega (arith, first, long)) (omega (arith, second, far))
    (is ∙ ap (λ (k : ℕ). equal_bytes (piece file left.position k) (piece next right.position k)) least) in
    let same : (left.length == right.length) ≡ (size_of content x == size_of content y) =
    ap₂ (λ (a b : TreeBox). a.length == b.length) one other in
    ends ∙ (λ i. differs_after (whole.0 i) (whole.1 i) (whole.2 i) (same i))
