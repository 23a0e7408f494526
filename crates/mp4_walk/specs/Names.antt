-- The names of boxes for people.
use Rattle.std.specs.Prelude.{ℕ, Bool, List, Option, nat_eq}
use Rattle.std.specs.List.{find}
use Rattle.std.specs.Option.{option_map}
use Rattle.std.specs.Cmp.Lexicographic.{pointwise}
use Rattle.mp4_walk.specs.declared.name.TheConstants.{NAMES}

-- a code and its name
abbrev pub Row : Type 0
Row = List ℕ × record { now : List ℕ }

-- a row of the table is of this code
abbrev pub is_of : List ℕ → Row → Bool
is_of code row = pointwise nat_eq row.0 code

-- the name in the first row of the table that is of this code
abbrev pub name_in : List Row → List ℕ → Option (List ℕ)
name_in rows code = option_map (λ row. row.1.now) (find (is_of code) rows)

-- the name of boxes with a code, in the table of names
unfoldable pub box_name : List ℕ → Option (List ℕ)
box_name code = name_in NAMES code
