-- The rows in which two boxes differ.
use Rattle.std.specs.Prelude.{ℕ, suc, ◌==◌, ◌&&◌, Bool, List, [], ◌∷◌, ◌++◌, length, None, Some, if◌then◌else◌}
use Rattle.std.specs.Prelude.{true, false, option_map, slice_get}
use Rattle.std.specs.declared.option.Option.{Option}
use Rattle.std.specs.Str.{bytes_eq}
use Rattle.mp4_diff.specs.Rows.{FieldRow}
use Rattle.mp4_diff.specs.declared.row_changes.RowChange.{RowChange}

-- the number of entries before the first that differs
abbrev pub first_unequal : List (List ℕ) → List (List ℕ) → ℕ
first_unequal [] ys = 0
first_unequal (x ∷ xs) [] = 0
first_unequal (x ∷ xs) (y ∷ ys) = if bytes_eq x y then suc (first_unequal xs ys) else 0

abbrev pub same_kind : Bool → Bool → Bool
same_kind true true = true
same_kind false false = true
same_kind _ _ = false

-- the same entries, and both or none is a list
abbrev pub is_same : FieldRow → FieldRow → Bool
is_same x y = same_kind x.1 y.1 && (first_unequal x.2 y.2 == length x.2) && (first_unequal x.2 y.2 == length y.2)

-- the number of the first row with this name
abbrev pub number_of : List ℕ → List FieldRow → Option ℕ
number_of name [] = None
number_of name (row ∷ rows) = if bytes_eq row.0 name then Some 0 else option_map suc (number_of name rows)

abbrev pub same_as : FieldRow → Option FieldRow → Bool
same_as row None = false
same_as row (Some other) = is_same row other

-- the row of this number, if there is one
abbrev pub partner_row : Option ℕ → List FieldRow → Option FieldRow
partner_row None rows = None
partner_row (Some n) rows = slice_get rows n

-- the change of the row `n` of the first box: none if the second box has the same under its name
abbrev pub change_of : ℕ → FieldRow → List FieldRow → Option RowChange
change_of n row rows =
    if same_as row (partner_row (number_of row.0 rows) rows) then None
    else Some (record { first = Some n; second = number_of row.0 rows })

abbrev pub listed : Option RowChange → List RowChange
listed None = []
listed (Some change) = change ∷ []

-- the changes of rows of the first box, of which the first has the number `n`
abbrev pub changes_from : ℕ → List FieldRow → List FieldRow → List RowChange
changes_from n [] second = []
changes_from n (row ∷ rows) second = listed (change_of n row second) ++ changes_from (suc n) rows second

abbrev pub only_of : ℕ → Option ℕ → List RowChange
only_of n (Some other) = []
only_of n None = record { first = None; second = Some n } ∷ []

-- the rows that only the second box has; the first of these rows of it has the number `n`
abbrev pub only_second : ℕ → List FieldRow → List FieldRow → List RowChange
only_second n first [] = []
only_second n first (row ∷ rows) = only_of n (number_of row.0 first) ++ only_second (suc n) first rows

-- all fields that differ
abbrev pub row_changes : List FieldRow → List FieldRow → List RowChange
row_changes first second = changes_from 0 first second ++ only_second 0 first second
