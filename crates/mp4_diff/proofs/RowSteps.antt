-- The rows of two boxes.
use Rattle.std.proofs.Common.{◌≡◌, ℕ, zero, suc, ◌≤◌, min, List, [], ◌∷◌, length, drop, map, refl, arith}
use Rattle.std.proofs.Common.{None, Some, sym, ap, ◌∙◌, ◌<◌, ◌-◌, get_or}
use Rattle.std.specs.Prelude.{option_copied, option_map, slice_get}
use Rattle.std.specs.Borrow.{Bor}
use Rattle.std.specs.declared.option.Option.{Option}
use Rattle.std.proofs.lemmas.Option.{slice_get-map, slice_get_past, slice_get_read}
use Rattle.std.specs.Slice.{IsItemAt}
use Rattle.mp4_diff.specs.Differences.{entry_at}
use Rattle.mp4_diff.specs.RowChanges.{first_unequal}
use Rattle.mp4_diff.specs.Rows.{last_front, row_of, rows_of, seen_row}
use Rattle.mp4_diff.specs.declared.rows.Row.{Row}

none_same : (xs : List (List ℕ)) → first_unequal xs [] ≡ 0
none_same [] = refl
none_same (x ∷ xs) = refl

-- After the end of the shorter list there are no equal entries.
pub unequal_ends : {X : Type 0} (text : X → List ℕ) (n : ℕ) (xs ys : List X) → min (length xs) (length ys) ≤ n
    → first_unequal (map text (drop n xs)) (map text (drop n ys)) ≡ 0
unequal_ends text zero [] ys ends = refl
unequal_ends text zero (x ∷ xs) [] ends = refl
unequal_ends text zero (x ∷ xs) (y ∷ ys) ends = absurd (omega (arith, ends))
unequal_ends text (suc n) [] ys ends = refl
unequal_ends text (suc n) (x ∷ xs) [] ends = none_same (map text (drop n xs))
unequal_ends text (suc n) (x ∷ xs) (y ∷ ys) ends = unequal_ends text n xs ys (omega (arith, ends))

-- An item that is lent, as a value.
pub copied_at : {X : Type 0} (xs : List X) (i : ℕ) (item : Option (Bor X)) → IsItemAt xs i item
    → option_copied item ≡ slice_get xs i
copied_at xs i None is = sym (slice_get_past xs i is.3)
copied_at xs i (Some x) is = sym (slice_get_read xs (length xs) i x.now refl is.3.0 is.1)

as_seen : (row : Option (Bor Row)) → seen_row row ≡ option_map row_of (option_copied row)
as_seen None = refl
as_seen (Some row) = refl

-- The row of a number.
pub row_seen : (rows : List Row) (n : ℕ) (row : Option (Bor Row)) → option_copied row ≡ slice_get rows n
    → seen_row row ≡ slice_get (rows_of rows) n
row_seen rows n row is =
    as_seen row ∙ ap (λ (o : Option Row). option_map row_of o) is ∙ sym (slice_get-map row_of rows n)

abbrev pub text_of : {X : Type 0} → (X → List ℕ) → Option X → List ℕ
text_of text None = []
text_of text (Some x) = text x

-- The text of an entry.
pub entry_got : {X : Type 0} (text : X → List ℕ) (i : ℕ) (xs : List X)
    → entry_at i (map text xs) ≡ text_of text (slice_get xs i)
entry_got text i [] = refl
entry_got text zero (x ∷ xs) = refl
entry_got text (suc i) (x ∷ xs) = entry_got text i xs

pub last_none : {X : Type 0} (text : X → List ℕ) (xs : List X) → length xs ≡ 0 → last_front (map text xs) ≡ []
last_none text [] none = refl
last_none text (x ∷ xs) none = absurd (omega (arith, none))

-- The last front.
pub last_at : {X : Type 0} (text : X → List ℕ) (xs : List X) (d : X) → 0 < length xs
    → last_front (map text xs) ≡ text (get_or xs (length xs - 1) d)
last_at text [] d some = absurd (omega (arith, some))
last_at text (x ∷ []) d some = refl
last_at text (x ∷ y ∷ xs) d some =
    let on : suc (length (y ∷ xs) - 1) ≡ length (x ∷ y ∷ xs) - 1 = omega arith in
    last_at text (y ∷ xs) d (omega arith) ∙ ap (λ (n : ℕ). text (get_or (x ∷ y ∷ xs) n d)) on
