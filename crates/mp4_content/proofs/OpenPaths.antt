-- The open levels of a walk over boxes, as they are stored.
use Rattle.std.proofs.Common.{◌≡◌, ℕ, zero, suc, ◌+◌, ◌-◌, ◌<◌, ◌≤◌, ◌^◌, min, Bool, cond, List, [], ◌∷◌}
use Rattle.std.proofs.Common.{◌++◌, length}
use Rattle.std.proofs.Common.{get_or, take, map, Some, refl, ap, ◌∙◌, sym, arith}
use Rattle.std.specs.Prelude.{◌==◌, count_by, slice_index_or, unwrap_or, if◌then◌else◌}
use Rattle.std.specs.BTreeMap.{get}
use Rattle.std.specs.Ordering.{nat_cmp}
use Rattle.std.specs.declared.option.Option.{Option}
use Rattle.std.proofs.lemmas.Bool.{eqb-true}
use Rattle.std.proofs.lemmas.List.{get_or_past, length-take, take_all}
use Rattle.std.proofs.lemmas.List.Sums.{sum_by-cons}
use Rattle.mp4_content.specs.Paths.{AreOpen, Code, IsOpen, code_key, count_of, entered, next, parts_of}
use Rattle.mp4_content.specs.declared.path.OpenLevel.{OpenLevel}
use Rattle.mp4_lemmas.proofs.Booleans.{by_bool}
use Rattle.mp4_walk.specs.declared.tree_box.TreeBox.{TreeBox}

pub same_length : (opened : List (List Code)) (levels : List OpenLevel) → AreOpen opened levels
    → length opened ≡ length levels
same_length [] [] are = refl
same_length (these ∷ opened) (level ∷ levels) are = omega (arith, same_length opened levels are.1)
same_length [] (level ∷ levels) are = absurd are
same_length (these ∷ opened) [] are = absurd are

pub are_taken : (n : ℕ) (opened : List (List Code)) (levels : List OpenLevel) → AreOpen opened levels
    → AreOpen (take n opened) (take n levels)
are_taken zero opened levels are = tt
are_taken (suc n) [] [] are = tt
are_taken (suc n) (these ∷ opened) (level ∷ levels) are = (are.0, are_taken n opened levels are.1)
are_taken (suc n) [] (level ∷ levels) are = absurd are
are_taken (suc n) (these ∷ opened) [] are = absurd are

pub is_at : (n : ℕ) (opened : List (List Code)) (levels : List OpenLevel) (d : OpenLevel) → AreOpen opened levels
    → n < length levels → IsOpen (slice_index_or opened n []) (get_or levels n d)
is_at n [] [] d are lt = absurd (omega arith)
is_at zero (these ∷ opened) (level ∷ levels) d are lt = are.0
is_at (suc n) (these ∷ opened) (level ∷ levels) d are lt = is_at n opened levels d are.1 (omega arith)
is_at n [] (level ∷ levels) d are lt = absurd are
is_at n (these ∷ opened) [] d are lt = absurd are

pub are_pushed : (opened : List (List Code)) (levels : List OpenLevel) (these : List Code) (level : OpenLevel)
    → AreOpen opened levels → IsOpen these level → AreOpen (opened ++ these ∷ []) (levels ++ level ∷ [])
are_pushed [] [] these level are is = (is, tt)
are_pushed (those ∷ opened) (other ∷ levels) these level are is =
    (are.0, are_pushed opened levels these level are.1 is)
are_pushed [] (other ∷ levels) these level are is = absurd are
are_pushed (those ∷ opened) [] these level are is = absurd are

pub same_parts : (opened : List (List Code)) (levels : List OpenLevel) → AreOpen opened levels
    → map (λ (level : OpenLevel). level.last) levels ≡ parts_of opened
same_parts [] [] are = refl
same_parts (these ∷ opened) (level ∷ levels) are =
    rw (are.0.last_is, same_parts opened levels are.1) refl
same_parts [] (level ∷ levels) are = absurd are
same_parts (these ∷ opened) [] are = absurd are

take_less : {X : Type 0} (m n : ℕ) (xs : List X) → m ≤ n → take m (take n xs) ≡ take m xs
take_less zero n xs le = refl
take_less (suc m) zero xs le = absurd (omega arith)
take_less (suc m) (suc n) [] le = refl
take_less {X} (suc m) (suc n) (x ∷ xs) le = ap (λ (ys : List X). x ∷ ys) (take_less m n xs (omega arith))

get_less : {X : Type 0} (m n : ℕ) (xs : List X) (d : X) → m < n → get_or (take n xs) m d ≡ get_or xs m d
get_less m zero xs d lt = absurd (omega arith)
get_less m (suc n) [] d lt = refl
get_less zero (suc n) (x ∷ xs) d lt = refl
get_less (suc m) (suc n) (x ∷ xs) d lt = get_less m n xs d (omega arith)

-- A level is taken out, and all deeper ones are dropped.
pub level_taken : (opened : List (List Code)) (old cut : List OpenLevel) (depth len : ℕ) (d : OpenLevel)
    → AreOpen opened old → cut ≡ take (depth + 1) old → len ≡ length cut → depth < length old
    → AreOpen (take depth opened) (take (len - 1) cut)
    × IsOpen (slice_index_or opened depth []) (get_or cut (len - 1) d)
level_taken opened old cut depth len d are is long lt =
    let last : len - 1 ≡ depth = omega (arith, long, ap length is, length-take (depth + 1) old, lt) in
    rw (last, is, take_less depth (depth + 1) old (omega arith), get_less depth (depth + 1) old d (omega arith))
    (are_taken depth opened old are, is_at depth opened old d are lt)

-- There is no level of this depth.
pub level_new : (opened : List (List Code)) (levels : List OpenLevel) (depth : ℕ) (level : OpenLevel)
    → AreOpen opened levels → length levels ≤ depth → IsOpen [] level
    → AreOpen (take depth opened) levels × IsOpen (slice_index_or opened depth []) level
level_new opened levels depth level are le is =
    let few : length opened ≤ depth = omega (arith, same_length opened levels are, le) in
    rw (take_all depth opened few, get_or_past opened depth [] few) (are, is)

-- A box is entered.
pub are_entered : (opened : List (List Code)) (x : TreeBox) (levels new : List OpenLevel) (level : OpenLevel)
    → AreOpen (take x.depth opened) levels → IsOpen (x.code ∷ slice_index_or opened x.depth []) level
    → new ≡ levels ++ level ∷ [] → AreOpen (entered opened x) new
are_entered opened x levels new level are is pushed =
    rw pushed (are_pushed (take x.depth opened) levels (x.code ∷ slice_index_or opened x.depth []) level are is)

-- One more box of a level is counted.
counted : (code other : Code) (codes : List Code)
    → count_by (λ c. code_key c == code_key other) (code ∷ codes)
    ≡ cond (code_key code == code_key other) 1 0 + count_by (λ c. code_key c == code_key other) codes
counted code other codes = sum_by-cons (λ c. cond (code_key c == code_key other) 1 0) code codes

count_more : (code other : Code) (codes : List Code) (n : ℕ) (o : Option ℕ) → n ≡ count_of code codes
    → unwrap_or o 0 ≡ count_of other codes
    → unwrap_or (if code_key code == code_key other then Some (next n) else o) 0 ≡ count_of other (code ∷ codes)
count_more code other codes n o is same =
    by_bool (code_key code == code_key other)
    (λ equal.
    let keys = eqb-true (code_key code) (code_key other) equal in
    let one : count_by (λ c. code_key c == code_key other) (code ∷ codes)
    ≡ 1 + count_by (λ c. code_key c == code_key other) codes =
    counted code other codes
    ∙ ap (λ (b : Bool). cond b 1 0 + count_by (λ c. code_key c == code_key other) codes) equal in
    let at : n ≡ count_of other codes =
    is ∙ ap (λ (k : ℕ). min (count_by (λ c. code_key c == k) codes) (2 ^ 64 - 1)) keys in
    ap (λ (b : Bool). unwrap_or (if b then Some (next n) else o) 0) equal ∙ omega (arith, one, at))
    (λ differ.
    let none : count_by (λ c. code_key c == code_key other) (code ∷ codes)
    ≡ count_by (λ c. code_key c == code_key other) codes =
    omega (
      arith,
      counted code other codes
          ∙ ap (λ (b : Bool). cond b 1 0 + count_by (λ c. code_key c == code_key other) codes) differ,
    ) in
    ap (λ (b : Bool). unwrap_or (if b then Some (next n) else o) 0) differ
    ∙ same ∙ ap (λ (m : ℕ). min m (2 ^ 64 - 1)) (sym none))

pub level_more : (code : Code) (codes : List Code) (level new : OpenLevel) (index : ℕ) → IsOpen codes level
    → index ≡ unwrap_or (get nat_cmp level.counts (code_key code)) 0
    → ((q : ℕ) → get nat_cmp new.counts q
    ≡ (if code_key code == q then Some (next (unwrap_or (get nat_cmp level.counts (code_key code)) 0)) else
    get nat_cmp level.counts q))
    → new.last ≡ record { code = code; index = index } → IsOpen (code ∷ codes) new
level_more code codes level new index is earlier counts last = record {
  last_is = last ∙ rw (earlier, is.counts_are code) refl;
  counts_are = λ other.
      ap (λ (o : Option ℕ). unwrap_or o 0) (counts (code_key other))
      ∙ count_more code other codes (unwrap_or (get nat_cmp level.counts (code_key code)) 0)
      (get nat_cmp level.counts (code_key other)) (is.counts_are code) (is.counts_are other);
}
