-- Counted tables.
use Rattle.std.proofs.Common.{◌≡◌, ℕ, zero, suc, ◌+◌, ◌*◌, ◌/◌, ◌^◌, ◌-◌, Bool, true, false, ltb, ◌<◌, ◌≤◌, List, []}
use Rattle.std.proofs.Common.{◌∷◌, ◌++◌, map, Result, Ok, Err, length, take, drop, refl, sym, ap, subst, ◌∙◌, ◌&&◌}
use Rattle.std.proofs.Common.{arith, lit≤}
use Rattle.std.proofs.lemmas.List.{take-take, drop-take, drop-drop, length-take, length-drop}
use Rattle.std.proofs.lemmas.Nat.{div-mul-add}
use Rattle.std.specs.Simd.{first_chunks}
use Rattle.std.specs.List.{flat_map, AllByRecursion}
use Rattle.std.proofs.lemmas.List.Elements.{All-from_recursion, recursion_from_All}
use Rattle.std.proofs.lemmas.List.{append_assoc, drop_at, take_at, length-append, length-map}
use Rattle.std.proofs.lemmas.Bool.{lt-ltb, le-leb}
use Rattle.std.proofs.lemmas.Nat.{le-div}
use Rattle.std.proofs.Math.Nat.{mul-le-mul_right}
use Rattle.mp4_lemmas.proofs.Lists.{length_flat, map_back}
use Rattle.mp4_frame.specs.Bytes.{number, bytes_of_fields, FieldsFit}
use Rattle.mp4_frame.specs.Laws.{AreBytes, BeginsWithHeader}
use Rattle.mp4_frame.specs.BoxType.{code_of}
use Rattle.mp4_frame.specs.declared.box_type.BoxType.{BoxType}
use Rattle.mp4_frame.specs.Reading.{Fault, End, Reading, expect_bytes, piece_at, check, memory, done, and_then, ◌>>=◌}
use Rattle.mp4_frame.specs.Reading.{Refuses}
use Rattle.mp4_frame.specs.declared.error.Error.{Error}
use Rattle.mp4_frame.specs.declared.error.Error.TheVariants as errors
use Rattle.mp4_frame.specs.Tables.{Table, rows, rows_at, counted_rows, fields_table, reads_table, size_table}
use Rattle.mp4_frame.specs.Tables.{WritableTable, bytes_table}
use Rattle.mp4_frame.proofs.Fields.{found, numbers-fields, number-fields, expect_bytes-fields, length-fields}
use Rattle.mp4_frame.proofs.Fields.{number-below}
use Rattle.mp4_frame.proofs.Checks.{expect_bytes_present, expect_bytes_ok, check_ok, expect_bytes_room, is_value}
use Rattle.mp4_frame.proofs.Checks.{are_bytes-drop, guard}

first_rows : (B : List ℕ) (o e n : ℕ) → first_chunks e n (take (n * e) (drop o B)) ≡ rows B o e n
first_rows B o e zero = refl
first_rows B o e (suc n) =
    let whole : suc n * e ≡ e + n * e = omega arith in
    let le : e ≤ suc n * e = omega arith in
    let head : take e (take (suc n * e) (drop o B)) ≡ take e (drop o B) = take-take e (suc n * e) (drop o B) le in
    let rest : drop e (take (suc n * e) (drop o B)) ≡ take (n * e) (drop (o + e) B) =
    ap (λ (k : ℕ). drop e (take k (drop o B))) whole ∙ drop-take e (n * e) (drop o B)
    ∙ ap (take (n * e)) (drop-drop e o B) in
    rw (head, rest, first_rows B (o + e) e n) refl

-- a reading that has a value has a value in its first part
pub value_first : {A C : Type 0} (r : Reading A) (g : A → Reading C) (y : C) → (r >>= g).outcome ≡ Ok y
    → (x : A) × (r.outcome ≡ Ok x) × ((g x).outcome ≡ Ok y)
value_first {A = A} {C = C} r g y h = by r.asks_memory r.outcome refl h
  where
    by : (a : Bool) (o : Result A Fault) → r.outcome ≡ o → (and_then a o g).outcome ≡ Ok y
        → (x : A) × (r.outcome ≡ Ok x) × ((g x).outcome ≡ Ok y)
    by a (Ok x) is e = (x, is, e)
    by a (Err d) is e = absurd cc

-- the chunks of the bytes of n rows are the rows
pub chunks_are_rows : (B taken : List ℕ) (o e n : ℕ) → 0 < e → taken ≡ take (n * e) (drop o B) → length taken ≡ n * e
    → first_chunks e (length taken / e) taken ≡ rows B o e n
chunks_are_rows B taken o e n pos is len =
    let count : length taken / e ≡ n = ap (λ (k : ℕ). k / e) (len ∙ (let z : n * e ≡ n * e + 0 = omega arith in z))
    ∙ div-mul-add n e 0 pos in
    rw (count, is) (first_rows B o e n)

-- the rows of bytes that are present
pub rows_value : (B taken : List ℕ) (o e n w : ℕ) → 0 < e → w ≡ n * e → length taken ≡ w
    → (piece_at B o w).outcome ≡ Ok taken → (rows_at B o e n).outcome ≡ Ok (first_chunks e (length taken / e) taken)
unfolding rows_at
rows_value B taken o e n w pos is long found =
    let is_read = value_first (expect_bytes B o w) (λ _. done (take w (drop o B))) taken found in
    let piece : take w (drop o B) ≡ taken = is_value _ taken is_read.2 in
    let here : taken ≡ take (n * e) (drop o B) = sym piece ∙ ap (λ (k : ℕ). take k (drop o B)) is in
    let made = chunks_are_rows B taken o e n pos here (long ∙ is) in
    let present : (expect_bytes B o (n * e)).outcome ≡ Ok tt = ap (λ (k : ℕ). (expect_bytes B o k).outcome) (sym is)
    ∙ is_read.1 in
    ap (λ (a : Result (Unit {0}) Fault).
    (and_then (expect_bytes B o (n * e)).asks_memory a (λ _. done (rows B o e n))).outcome) present
    ∙ ap (λ (x : List (List ℕ)). Ok x) (sym made)

fault_same : {A C : Type 0} (b : Bool) (y : A) (z : C) (x : Error) → Refuses x (guard b >>= λ _. done y)
    → Refuses x (guard b >>= λ _. done z)
fault_same true y z errors.IoError h = refl
fault_same true y z (errors.InvalidData _) h = absurd cc
fault_same true y z (errors.BoxNotFound _) h = absurd cc
fault_same true y z errors.OutOfMemory h = h
fault_same true y z _ h = absurd h
fault_same false y z errors.IoError h = absurd cc
fault_same false y z (errors.InvalidData _) h = absurd cc
fault_same false y z (errors.BoxNotFound _) h = absurd cc
fault_same false y z errors.OutOfMemory h = h
fault_same false y z _ h = absurd h

-- the rows of bytes that are not present
pub rows_fault : (B : List ℕ) (o e n w : ℕ) (x : Error) → w ≡ n * e → Refuses x (piece_at B o w)
    → Refuses x (rows_at B o e n)
unfolding rows_at
rows_fault B o e n w x is h =
    fault_same (ltb 0 (n * e) && ltb (length B) (o + n * e)) (take (n * e) (drop o B)) (rows B o e n) x
    (subst (λ (k : ℕ). Refuses x (piece_at B o k)) is h)

-- rows of 2^64 bytes or more are past the end of a buffer of fewer bytes
pub rows_past_all : (B : List ℕ) (o e n : ℕ) → length B < 2 ^ 64 → (n * e < 2 ^ 64 → ⊥)
    → (rows_at B o e n).outcome ≡ Err End
unfolding rows_at
rows_past_all B o e n fits past =
    let over : ltb (length B) (o + n * e) ≡ true = lt-ltb _ _ (omega arith) in
    let some : ltb 0 (n * e) ≡ true = lt-ltb _ _ (omega arith) in
    rw (some, over) refl

module _ {X : Type 0} (f : X → List ℕ) (e : ℕ) (Fits : X → Type 0) (each : (x : X) → Fits x → length (f x) ≡ e) where
  -- the rows of entries, among other bytes
  pub rows_back : (p : List ℕ) (xs : List X) (y : List ℕ) (o : ℕ) → AllByRecursion Fits xs → length p ≡ o
      → rows (p ++ (flat_map f xs ++ y)) o e (length xs) ≡ map f xs
  rows_back p [] y o h at = refl
  rows_back p (x ∷ xs) y o h at =
      let regroup : p ++ ((f x ++ flat_map f xs) ++ y) ≡ (p ++ f x) ++ (flat_map f xs ++ y) = simp append_assoc in
      let head : take e (drop o (p ++ ((f x ++ flat_map f xs) ++ y))) ≡ f x =
      ap (take e) (drop_at p ((f x ++ flat_map f xs) ++ y) o at ∙ append_assoc (f x) (flat_map f xs) y)
      ∙ take_at (f x) (flat_map f xs ++ y) e (each x h.0) in
      let next : length (p ++ f x) ≡ o + e = omega (arith, length-append p (f x), each x h.0) in
      let rest : rows (p ++ ((f x ++ flat_map f xs) ++ y)) (o + e) e (length xs) ≡ map f xs =
      ap (λ (B : List ℕ). rows B (o + e) e (length xs)) regroup ∙ rows_back (p ++ f x) xs y (o + e) h.1 next in
      rw (head, rest) refl

  -- rows that were written are read back
  pub rows_at_back : (p : List ℕ) (xs : List X) (y : List ℕ) (o : ℕ) → AllByRecursion Fits xs → length p ≡ o
      → rows_at (p ++ (flat_map f xs ++ y)) o e (length xs) ≡ done (map f xs)
  unfolding rows_at
  rows_at_back p xs y o h at =
      let B = p ++ (flat_map f xs ++ y) in
      let room : o + length xs * e ≤ length B =
      omega (
        arith,
        length-append p (flat_map f xs ++ y),
        length-append (flat_map f xs) y,
        length_flat f e Fits each xs h,
        at,
      ) in
      rw (expect_bytes_present B o (length xs * e) room, rows_back p xs y o h at) refl

  -- a written counted table is read back
  pub counted_rows_back : (code version flags : ℕ) (xs : List X) (y : List ℕ) → 0 < e → AllByRecursion Fits xs
      → FieldsFit (fields_table (size_table e xs) code version flags (length xs))
      → (counted_rows ((bytes_of_fields (fields_table (size_table e xs) code version flags (length xs))
      ++ flat_map f xs) ++ y) (size_table e xs) e).outcome
      ≡ Ok (record { version = version; flags = flags; rows = map f xs })
  unfolding counted_rows
  counted_rows_back code version flags xs y pos h fits =
      let size = size_table e xs in
      let cs = fields_table size code version flags (length xs) in
      let z = flat_map f xs ++ y in
      let B = bytes_of_fields cs ++ z in
      let numbers : number B ≡ found cs z = numbers-fields cs z fits in
      let many : number B 12 4 ≡ length xs = ap (λ (at : ℕ → ℕ → ℕ). at 12 4) numbers in
      let v : number B 8 1 ≡ version = ap (λ (at : ℕ → ℕ → ℕ). at 8 1) numbers in
      let g : number B 9 3 ≡ flags = ap (λ (at : ℕ → ℕ → ℕ). at 9 3) numbers in
      let head = expect_bytes-fields cs z 8 8 (lit≤ tt) in
      let fit = le-leb (length xs) ((size - 16) / e) (le-div (length xs) (size - 16) e pos (omega arith)) in
      let body = rows_at_back (bytes_of_fields cs) xs y 16 h (length-fields cs) in
      let whole : (counted_rows B size e).outcome ≡ Ok (record { version = version; flags = flags; rows = map f xs }) =
      rw (head, many, fit, body, v, g) refl in
      ap (λ (l : List ℕ). (counted_rows l size e).outcome) (append_assoc (bytes_of_fields cs) (flat_map f xs) y) ∙ whole

-- ---- values that are read from bytes

-- a row of e bytes
pub record IsRow (e : ℕ) (row : List ℕ) : Type 0 where
  pub long : length row ≡ e
  pub are : AreBytes row

bytes_take : (B : List ℕ) (e : ℕ) → AreBytes B → AreBytes (take e B)
bytes_take B zero h i = omega arith
bytes_take [] (suc e) h i = omega arith
bytes_take (b ∷ B) (suc e) h zero = h 0
bytes_take (b ∷ B) (suc e) h (suc i) = bytes_take B e (λ k. h (suc k)) i

-- rows that are present have e bytes each
pub rows_are : (B : List ℕ) (o e n : ℕ) → AreBytes B → (0 < n → o + n * e ≤ length B)
    → AllByRecursion (IsRow e) (rows B o e n)
rows_are B o e zero are room = tt
rows_are B o e (suc n) are room =
    let all : o + suc n * e ≤ length B = room (omega arith) in
    let whole : suc n * e ≡ e + n * e = omega arith in (
      record {
        long = omega (arith, length-take e (drop o B), length-drop o B);
        are = bytes_take (drop o B) e (are_bytes-drop o B are);
      },
      rows_are B (o + e) e n are (λ _. omega arith),
    )

pub length-rows : (B : List ℕ) (o e n : ℕ) → length (rows B o e n) ≡ n
length-rows B o e zero = refl
length-rows B o e (suc n) = ap suc (length-rows B (o + e) e n)

-- rows that were read have e bytes each
pub rows_read : (B : List ℕ) (o e n : ℕ) (found : List (List ℕ)) → 0 < e → AreBytes B
    → (rows_at B o e n).outcome ≡ Ok found → AllByRecursion (IsRow e) found × (length found ≡ n)
unfolding rows_at
rows_read B o e n found pos are h =
    let p = value_first (expect_bytes B o (n * e)) (λ _. done (rows B o e n)) found h in
    let is : rows B o e n ≡ found = is_value _ found p.2 in
    rw (← is) (
      rows_are B o e n are
          (λ more. (let one : 1 ≤ n = omega arith in let some : 1 * e ≤ n * e =
          mul-le-mul_right e one in expect_bytes_room B o (n * e) (omega (arith, some)) p.1)),
      length-rows B o e n,
    )

-- the fields of a counted table that was read are in their ranges
pub counted_rows_read : (B : List ℕ) (size e : ℕ) (t : Table) → 0 < e → AreBytes B
    → (counted_rows B size e).outcome ≡ Ok t
    → (t.version < 256 ^ 1) × (t.flags < 256 ^ 3) × (length t.rows < 256 ^ 4) × AllByRecursion (IsRow e) t.rows
unfolding counted_rows
counted_rows_read B size e t pos are h =
    let n = number B 12 4 in
    let made : List (List ℕ) → Reading Table =
    λ r. done (record { version = number B 8 1; flags = number B 9 3; rows = r }) in
    let a = expect_bytes_ok B 8 8 (λ _. check _ >>= λ _. rows_at B 16 e n >>= made) t h in
    let b = check_ok _ (λ _. rows_at B 16 e n >>= made) t a in
    let c = value_first (rows_at B 16 e n) made t b.1 in
    let found = rows_read B 16 e n c.0 pos are c.1 in
    let count : length c.0 < 256 ^ 4 = omega (arith, number-below B 12 4 are, found.1) in
    let is : record { version = number B 8 1; flags = number B 9 3; rows = c.0 } ≡ t = is_value _ t c.2 in
    rw (← is) (number-below B 8 1 are, number-below B 9 3 are, count, found.0)

-- a property of each row is a property of each entry
pub map_all : {X : Type 0} (e : ℕ) (entry_of : List ℕ → X) (Fits : X → Type 0)
    → ((row : List ℕ) → IsRow e row → Fits (entry_of row)) → (found : List (List ℕ)) → AllByRecursion (IsRow e) found
    → AllByRecursion Fits (map entry_of found)
map_all e entry_of Fits each [] h = tt
map_all e entry_of Fits each (row ∷ found) h = (each row h.0, map_all e entry_of Fits each found h.1)

-- The laws of a box of one table, from the laws of its entries. A row has e bytes, an entry that fits is read back from
-- its row, and an entry that was read fits.
module _ {X V : Type 0} (make : ℕ → ℕ → List X → V) (row_of : X → List ℕ) (entry_of : List ℕ → X) (Fits : X → Type 0)
    (e code : ℕ) (pos : 0 < e) (coded : code < 256 ^ 4)
    (long : (x : X) → Fits x → length (row_of x) ≡ e) (back : (x : X) → Fits x → entry_of (row_of x) ≡ x)
    (fits : (row : List ℕ) → IsRow e row → Fits (entry_of row)) where
  pub header_of_table : (name : BoxType) → code ≡ code_of name → (version flags : ℕ) (xs : List X)
      → WritableTable Fits e code version flags xs
      → BeginsWithHeader (size_table e xs) name (bytes_table row_of e code version flags xs)
  header_of_table name named version flags xs w =
      let cs = fields_table (size_table e xs) code version flags (length xs) in
      let z = flat_map row_of xs in
      let lj : length (bytes_of_fields cs) ≡ 16 = length-fields cs in
      record {
        long = omega (
          arith,
          length-append (bytes_of_fields cs) z,
          lj,
          length_flat row_of e Fits long xs (recursion_from_All Fits xs w.each),
        );
        least = omega arith;
        most = w.fit.0;
        size_first = number-fields cs z 0 4 w.fit;
        code_next = number-fields cs z 4 4 w.fit ∙ named;
      }

  pub table_back : (version flags : ℕ) (xs : List X) (rest : List ℕ) → WritableTable Fits e code version flags xs
      → (reads_table make entry_of e (bytes_table row_of e code version flags xs ++ rest) (size_table e xs)).outcome
      ≡ Ok (make version flags xs)
  table_back version flags xs rest w =
      let t = counted_rows_back row_of e Fits long code version flags xs rest pos
      (recursion_from_All Fits xs w.each) w.fit in
      let es = map_back row_of entry_of Fits back xs (recursion_from_All Fits xs w.each) in
      rw (t, es) refl

  -- a value that was read is made of version, flags and entries, and can be written unless it is too large
  pub table_read : (B : List ℕ) (size : ℕ) (v : V) → AreBytes B → (reads_table make entry_of e B size).outcome ≡ Ok v
      → (version flags : ℕ) × (xs : List X) × (make version flags xs ≡ v)
      × (size_table e xs < 2 ^ 32 → WritableTable Fits e code version flags xs)
  table_read B size v are h =
      let p = value_first (counted_rows B size e)
      (λ (t : Table). memory >>= λ _. done (make t.version t.flags (map entry_of t.rows))) v h in
      let t = counted_rows_read B size e p.0 pos are p.1 in
      let xs = map entry_of p.0.rows in
      let count : length xs < 256 ^ 4 = omega (arith, t.2, length-map p.0.rows entry_of) in (
        p.0.version,
        p.0.flags,
        xs,
        is_value _ v p.2,
        λ small. record {
          fit = (small, (coded, (t.0, (t.1, (count, tt)))));
          each = All-from_recursion Fits xs (map_all e entry_of Fits fits p.0.rows t.3);
        },
      )
