-- Names in a table of names.
use Rattle.std.proofs.Common.{◌≡◌, ℕ, List, [], ◌∷◌, Bool, true, false, Bor, map, refl, nat_eq}
use Rattle.std.specs.List.{find}
use Rattle.std.specs.Option.{option_map}
use Rattle.std.specs.Cmp.Lexicographic.{pointwise}
use Rattle.mp4_walk.specs.Names.{Row, name_in}

-- a row where it is stored, and as the table has it
abbrev pub Stored : Type 0
Stored = List ℕ × Bor (List ℕ)

abbrev pub row_of : Stored → Row
row_of x = (x.0, record { now = x.1.now })

abbrev pub has_code : List ℕ → Stored → Bool
has_code code x = pointwise nat_eq x.0 code

-- the name in the first stored row with a code
pub name_found : (code : List ℕ) (rows : List Stored)
    → option_map (λ x. x.1.now) (find (has_code code) rows) ≡ name_in (map row_of rows) code
name_found code [] = refl
name_found code (x ∷ xs) = by_test (has_code code x) refl (name_found code xs)
  where
    by_test : (b : Bool) → has_code code x ≡ b
        → option_map (λ x. x.1.now) (find (has_code code) xs) ≡ name_in (map row_of xs) code
        → option_map (λ x. x.1.now) (find (has_code code) (x ∷ xs)) ≡ name_in (map row_of (x ∷ xs)) code
    by_test true is rest = rw is
    by_test false is rest = rw (is, rest)
